-- A bank that is longer than any accepted one is refused by its front: its first 4,096 bytes have the refusal of the whole, so that a program
-- need not hold more.
-- Assumes nothing.
use Prim.Native.Nat.{ℕ, zero, suc, ◌+◌, ◌*◌, ◌≤◌, ◌<◌}
use mathlib.Core.Path.{◌≡◌, refl, sym, ap, ◌∙◌}
use mathlib.Core.Bool.{Bool, true, false}
use mathlib.Core.List.{List}
use native.Mathlib.Nat.{suc-mul}
use native.Mathlib.Omega.{arith}
use borrow.Author.Tests.{le-leb, leb-true, eqb-true, ne_eqb}
use lib.Dec.{leb, eqb}
use lib.ListN.{length, take, get_or}
use lib.Seq.{get_or-take, length-take-le}
use Rattle.field.specs.Field.{field}
use Rattle.field.proofs.Laws.{field-same}
use Rattle.limits.specs.Range.{both}
use Rattle.capacity.specs.Capacity.{capacity_of}
use Rattle.setting.specs.Setting.{settings_at}
use Rattle.bank.specs.View.{offset_of, length_of, steps_in}
use Rattle.setting.specs.Found.{test, then}
use Rattle.setting.specs.Setting.{settings_found, settings_in}
use Rattle.bank.specs.Check.{pair_right, pairs_from, pairs_found, found_in}
use Rattle.setting.specs.declared.Settings.{Settings}
use Rattle.setting.specs.declared.BankRefusal.TheVariants.{Short, Pair}
use Rattle.setting.proofs.Laws.{off, right, wrong, first-is, settings-count}
use Rattle.bank.proofs.Facts.{test-holds, not-pair, pair-holds}
use Rattle.setting.proofs.Padded.{settings-padded}
use Rattle.longest.proofs.Longest.{ends, bound}
use Rattle.std.specs.Prelude.{Ok, Err}
use Rattle.setting.specs.Found.{Checked}
use Rattle.setting.specs.Found.{Accepted}

-- where a body of any right length fits, the size of the bank does not matter
right-same : (offset len due cap size size' : ℕ) → due + (2 + 9 * cap) ≤ size → due + (2 + 9 * cap) ≤ size' → pair_right offset len due cap size ≡ pair_right offset len due cap size'
unfolding pair_right
right-same offset len due cap size size' h room = go (eqb offset due) (eqb len (2 + 9 * steps_in len)) (leb (steps_in len) cap) refl refl
  where
    go : (x y z : Bool) → eqb len (2 + 9 * steps_in len) ≡ y → leb (steps_in len) cap ≡ z
        → both x (both y (both z (leb (due + len) size))) ≡ both x (both y (both z (leb (due + len) size')))
    go x false z told f = ap (both x) (off _ refl ∙ sym (off _ refl))
    go x true false told f = ap (λ (t : Bool). both x (both true t)) (off _ refl ∙ sym (off _ refl))
    go x true true told f =
        let exact = eqb-true len (2 + 9 * steps_in len) told in
        let c = leb-true (steps_in len) cap f in
        ap (λ (t : Bool). both x (both true (both true t))) (le-leb (due + len) size (omega arith) ∙ sym (le-leb (due + len) size' (omega arith)))

test-same : (t other : Bool) (refusal x y : Checked) → t ≡ other → (other ≡ true → x ≡ y) → test t refusal x ≡ test other refusal y
test-same t true refusal x y told f = right refusal told ∙ f refl ∙ sym (right refusal refl)
test-same t false refusal x y told f = wrong x told ∙ sym (wrong y refl)

module _ (a bank : List ℕ) (same : (j : ℕ) → j < 4096 → get_or a j 0 ≡ get_or bank j 0) (la : 4096 ≤ length a) (lb : 4096 ≤ length bank) where
  field_is : (width i : ℕ) → i + width ≤ 4096 → field width a i ≡ field width bank i
  field_is width i h = field-same width a bank i i (λ j l. same (i + j) (omega arith))

  -- m pairs from pair i on, all of them in the front
  pairs-from : (n m i due : ℕ) → i + m ≤ 16 → due + m * (2 + 9 * capacity_of n) ≤ 1011 → pairs_from a n m i due ≡ pairs_from bank n m i due
  unfolding pairs_from
  pairs-from n zero i due h room =
      wrong _ (ne_eqb due (length a) (λ told. omega arith)) ∙ sym (wrong _ (ne_eqb due (length bank) (λ told. omega arith)))
  pairs-from n (suc m) i due h room =
      let cap = capacity_of n in
      let offset = field_is 2 (41 + 4 * i) (omega arith) in
      let len = field_is 2 (43 + 4 * i) (omega arith) in
      let l = suc-mul m (2 + 9 * cap) in
      test-same _ _ (Err (Pair i)) _ _
      ((λ j. pair_right (offset j) (len j) due cap (length a)) ∙ right-same (offset_of bank i) (length_of bank i) due cap (length a) (length bank) (omega arith) (omega arith))
      (λ right. let f = pair-holds bank n i due right in
      ap (λ (x : ℕ). pairs_from a n m (i + 1) (due + x)) len ∙ pairs-from n m (i + 1) (due + length_of bank i) (omega arith) (omega (arith, f.size, f.steps)))

  pairs-same : (n : ℕ) → n ≤ 15 → pairs_found a n ≡ pairs_found bank n
  unfolding pairs_found
  pairs-same n h =
      right (Err (Pair 0)) (le-leb (45 + 4 * n) (length a) (omega arith))
      ∙ pairs-from n n 1 (45 + 4 * n) (omega arith) (omega (arith, bound n h))
      ∙ sym (right (Err (Pair 0)) (le-leb (45 + 4 * n) (length bank) (omega arith)))

too_long : (bank : List ℕ) (n : ℕ) → n ≤ 15 → 4096 ≤ length bank → pairs_found bank n ≡ Accepted → ⊥
unfolding pairs_found
too_long bank n h l told = omega (arith, ends bank n n 1 (45 + 4 * n) (test-holds _ _ _ (not-pair 0) told).1, bound n h)

-- what is found next matters only where nothing was found before
then_same : (found x y : Checked) → (found ≡ Accepted → x ≡ y) → then found x ≡ then found y
unfolding then
then_same (Ok done) x y f = f refl
then_same (Err refusal) x y f = refl

then_refused : (found rest : Checked) → (found ≡ Accepted → ⊥) → then found rest ≡ found
unfolding then
then_refused (Ok done) rest h = absurd (h refl)
then_refused (Err refusal) rest h = refl

few : (bank : List ℕ) → settings_found (settings_at bank) ≡ Accepted → (settings_at bank).patterns ≤ 15
few bank told = (settings-count (settings_at bank) told).1

-- so long a bank is refused by its settings or its pairs
by_front : (bank : List ℕ) → 4096 ≤ length bank → found_in bank ≡ then (settings_found (settings_at bank)) (pairs_found bank (settings_at bank).patterns)
unfolding found_in settings_in then
by_front bank l =
    first-is _ (right (Err Short) (le-leb 45 (length bank) (omega arith)))
    ∙ then_same (settings_found (settings_at bank)) _ _ (λ told. then_refused _ _ (too_long bank (settings_at bank).patterns (few bank told) l))

-- two such banks whose fronts are the same
same-found : (a bank : List ℕ) → ((j : ℕ) → j < 4096 → get_or a j 0 ≡ get_or bank j 0) → 4096 ≤ length a → 4096 ≤ length bank → found_in a ≡ found_in bank
same-found a bank same la lb =
    let settings : settings_at a ≡ settings_at bank = settings-padded a bank (λ j h. same j (omega arith)) in
    by_front a la
    ∙ then_same (settings_found (settings_at a)) _ _ (λ told. pairs-same a bank same la lb (settings_at a).patterns (few a told))
    ∙ ap (λ (x : Settings). then (settings_found x) (pairs_found bank x.patterns)) settings
    ∙ sym (by_front bank lb)

-- the first 4,096 bytes of a bank have the refusal of the whole
pub front-tells : (bank : List ℕ) → 4096 ≤ length bank → found_in bank ≡ found_in (take 4096 bank)
front-tells bank l = sym (same-found (take 4096 bank) bank (λ j h. get_or-take 4096 bank j 0 h) (omega (arith, length-take-le 4096 bank l)) l)
