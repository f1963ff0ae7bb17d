-- `key::value::digits` meets its contract. The invariant: the number of all digits is that of those read, with the rest after it.
-- Assumes nothing.
use Prim.Native.Nat.{ℕ, ◌+◌, ◌≤◌, ◌-◌}
use mathlib.Core.List.{List, []}
use mathlib.Core.Path.{◌≡◌, ap, ◌∙◌, sym}
use native.Mathlib.Omega.{arith}
use lib.IntN.{pos}
use lib.ListN.{length, drop, get_or, drop_of_length-le}
use mir.Syntax.{w32}
use mir.Facts.{to_z_pos}
use Rattle.std.proofs.lemmas.Bool.Decides.{nat_tests}
use Rattle.key.specs.Line.{are_digits, read_on, unsigned}
use Rattle.key.proofs.Laws.{digits-turn, read-turn, digit, none, more, small, out_of_size, no_digit, right}
use Rattle.key.proofs.value.digits.Invariants.{Read}
use Rattle.key.proofs.value.digits.Goals as goal
use Rattle.std.specs.Prelude.{Some}

-- all digits were read
whole : (cs : List ℕ) (value i : ℕ) → 1 ≤ length cs → length cs ≤ 5 → length cs ≤ i → Read cs value i → unsigned cs ≡ Some (pos value)
unfolding are_digits read_on
whole cs value i some short h read =
    let done : drop i cs ≡ [] = drop_of_length-le cs {i = i} h in
    right cs some short (read.are ∙ ap are_digits done) ∙ ap (λ (x : ℕ). Some (pos x)) (read.is ∙ ap (read_on value) done)

pub returns-then-not-contains : goal.returns-then-not-contains
returns-then-not-contains c = sym (out_of_size c.args.cs.now (λ some short. grind (arith, nat_tests)))

pub returns-then-not-is_ascii_digit : goal.returns-then-not-is_ascii_digit
returns-then-not-is_ascii_digit c =
    let l = c.loop-c in
    let cs = c.args.cs.now in
    let some : 1 ≤ length cs = grind (arith, nat_tests) in
    let short : length cs ≤ 5 = grind (arith, nat_tests) in
    sym (no_digit cs some short (l.invariant.are ∙ digits-turn cs l.c-index c.loop-c-test.true
    ∙ none (get_or cs l.c-index 0) (are_digits (drop (l.c-index + 1) cs)) (λ low high. omega (arith, c.if-not-is_ascii_digit.ensures.cases))))

pub loop-c-preserved : goal.loop-c-preserved
loop-c-preserved c =
    let l = c.loop-c in
    let cs = c.args.cs.now in
    let taken = c.loop-c-test.true in
    let byte = get_or cs l.c-index 0 in
    let is = c.if-not-is_ascii_digit.ensures.cases in
    record {
      bound = more l.c-index l.value (byte - 48) l.invariant.bound (omega (arith, is));
      are = l.invariant.are ∙ digits-turn cs l.c-index taken ∙ digit byte (are_digits (drop (l.c-index + 1) cs)) (omega (arith, is)) (omega (arith, is));
      is = l.invariant.is ∙ read-turn cs l.c-index l.value taken;
    }

pub returns : goal.returns
returns c =
    let l = c.loop-c in
    let cs = c.args.cs.now in
    let some : 1 ≤ length cs = grind (arith, nat_tests) in
    let short : length cs ≤ 5 = grind (arith, nat_tests) in
    let few = small l.c-index l.value l.invariant.bound (omega arith) in
    rw (to_z_pos w32 {n = l.value} (omega arith)) (sym (whole cs l.value l.c-index some short c.loop-c-test.false l.invariant))
