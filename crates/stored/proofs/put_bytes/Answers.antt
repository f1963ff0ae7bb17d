-- `stored::put_bytes` meets its contract: the bytes so far, and one more.
-- Assumes nothing.
use Prim.Native.Nat.{ℕ, ◌+◌, ◌<◌}
use mathlib.Core.Path.{◌≡◌, sym, ap, ◌∙◌}
use mathlib.Core.List.{List, [], ◌∷◌, ◌++◌}
use native.Mathlib.Numerals.{add-one}
use native.Mathlib.Omega.{arith}
use borrow.Author.Rules.{rules}
use lib.ListN.{length, take, get_or, set, length-set}
use lib.Seq.{sets, take-suc, length-take-le}
use Rattle.field.proofs.Laws.{sets-append}
use Rattle.stored.proofs.put_bytes.Goals as goal

-- one byte more
one-more : (buffer now bytes : List ℕ) (at i : ℕ) → i < length bytes → now ≡ sets buffer at (take i bytes)
    → set now (at + i) (get_or bytes i 0) ≡ sets buffer at (take (i + 1) bytes)
one-more buffer now bytes at i here same =
    let far : length (take i bytes) ≡ i = length-take-le i bytes (omega arith) in
    let more : take (i + 1) bytes ≡ take i bytes ++ (get_or bytes i 0 ∷ []) = rw add-one (take-suc bytes i 0 here) in
    ap (λ (b : List ℕ). set b (at + i) (get_or bytes i 0)) same
    ∙ ap (λ (k : ℕ). set (sets buffer at (take i bytes)) (at + k) (get_or bytes i 0)) (sym far)
    ∙ sets-append (take i bytes) (get_or bytes i 0 ∷ []) buffer at
    ∙ ap (sets buffer at) (sym more)

pub loop-i-preserved : goal.loop-i-preserved
loop-i-preserved g c =
    let l = c.loop-i in
    let a = c.args in
    let all : length a.bytes.now ≡ g.row.N = search rules in
    record {
      long = length-set l.buffer (a.at + l.i) (get_or a.bytes.now l.i 0) ∙ l.invariant.long;
      made = one-more a.buffer.now l.buffer a.bytes.now a.at l.i (omega (arith, all)) l.invariant.made;
    }
