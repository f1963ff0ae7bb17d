-- A line of more than eight bytes asks for nothing, so that a program may keep only the first bytes of a line.
-- Assumes nothing.
use mathlib.Core.Path.{◌≡◌, refl, sym, ap, ◌∙◌}
use mathlib.Core.Bool.{Bool, true, false, cond}
use mathlib.Core.List.{List}
use Prim.Native.Nat.{ℕ, ◌<◌}
use native.Mathlib.Omega.{arith}
use borrow.Author.Tests.{leb-true, leb-false, ne_eqb}
use lib.Dec.{leb, eqb}
use lib.ListN.{length, take, drop, get_or, length-drop}
use lib.Seq.{take_all, length-take-le}
use Rattle.limits.specs.Range.{both}
use Rattle.key.specs.Line.{unsigned, negated, number_of, is_only, select, tick, return, tick_of, return_of, valued, asked_by}
use Rattle.key.proofs.Laws.{out_of_size}
use Rattle.std.specs.Prelude.{Option, None}
use Rattle.plain.specs.declared.Event.{Event}

-- more than a minus and five digits are no number
long-number : (cs : List ℕ) → 6 < length cs → number_of cs ≡ None
unfolding number_of negated
long-number cs h = go (eqb (get_or cs 0 0) 45)
  where
    go : (t : Bool) → cond t (negated (unsigned (drop 1 cs))) (unsigned cs) ≡ None
    go true = rw (out_of_size (drop 1 cs) (λ some few. omega (arith, length-drop 1 cs)))
    go false = out_of_size cs (λ some few. omega arith)

long-value : (c : ℕ) (cs : List ℕ) → 6 < length cs → valued c cs ≡ None
unfolding valued select tick_of return_of tick return is_only both
long-value c cs h =
    rw (long-number cs h, ne_eqb (length cs) 1 (λ same. omega arith)) (go (eqb c 78) (eqb c 84) (eqb c 82))
  where
    go : (x y z : Bool) → cond {A = Option Event} x None (cond y None (cond z None None)) ≡ None
    go true y z = refl
    go false true z = refl
    go false false true = refl
    go false false false = refl

pub asks_nothing : (cs : List ℕ) → 8 < length cs → asked_by cs ≡ None
unfolding asked_by
asks_nothing cs h =
    rw (ne_eqb (length cs) 1 (λ same. omega arith), long-value (get_or cs 0 0) (drop 2 cs) (omega (arith, length-drop 2 cs))) (go (eqb (get_or cs 1 0) 32))
  where
    go : (t : Bool) → cond {A = Option Event} t None None ≡ None
    go true = refl
    go false = refl

-- the first 16 bytes of a line ask for what the line asks for
pub long-lines : (cs : List ℕ) → asked_by cs ≡ asked_by (take 16 cs)
long-lines cs = go (leb (length cs) 16) refl
  where
    go : (t : Bool) → leb (length cs) 16 ≡ t → asked_by cs ≡ asked_by (take 16 cs)
    go true h = ap asked_by (sym (take_all 16 cs (leb-true (length cs) 16 h)))
    go false h =
        let long = leb-false (length cs) 16 h in
        asks_nothing cs (omega arith) ∙ sym (asks_nothing (take 16 cs) (omega (arith, length-take-le 16 cs (omega arith))))
