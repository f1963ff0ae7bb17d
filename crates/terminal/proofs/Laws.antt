-- The laws of an input that comes in parts.
-- Assumes nothing.
use Prim.Native.Nat.{ℕ, ◌*◌, ◌≤◌}
use mathlib.Core.Bool.{true}
use mathlib.Core.List.{List, [], ◌++◌}
use mathlib.Core.Path.{◌≡◌, refl, sym, ap, ◌∙◌}
use borrow.Author.Tests.{le-leb}
use lib.ListN.{length, replicate}
use Rattle.setting.specs.Found.{is_accepted}
use Rattle.bank.specs.Check.{found_in}
use Rattle.plain.specs.Setup.{Setup}
use Rattle.controller.specs.Holds.{state_of}
use Rattle.line.specs.declared.Between.{Between}
use Rattle.line.specs.declared.Ran.{Ran}
use Rattle.line.specs.Part.{Sheet, part_of, end_of, After, after, found, leaving, run_of, finish_of, start_of, no_text}
use Rattle.line.proofs.Laws.{part-append}
use Rattle.line.proofs.Whole.{part-bare, end-bare, start-leaves, all-input}
use Rattle.terminal.specs.Input.{Part, Whole, All}

-- ---- what a call of `line` leaves

left_by_lem : (ran : Ran) {store out' : List ℕ} (sheet : Sheet) (out : List ℕ) → after ran store out' ≡ leaving sheet out → found ran.between store ≡ no_text sheet
left_by_lem ran sheet out h = ap (λ (left : After). record { state = left.state; store = left.store; line = left.line; text = [] }) h

module _ (setup : Setup) (sheet : Sheet) where
  pub ran-part : (cs out : List ℕ) (ran : Ran) {store out' : List ℕ} → 168 * length cs ≤ length out → after ran store out' ≡ run_of setup sheet cs out
      → Part setup sheet (found ran.between store)
  unfolding run_of
  ran-part cs out ran h g =
      record { input = cs; is = left_by_lem ran (part_of setup sheet cs) out (g ∙ rw (le-leb (168 * length cs) (length out) h)) }

  pub finished : (out : List ℕ) (ran : Ran) {store out' : List ℕ} → 168 ≤ length out → after ran store out' ≡ finish_of setup sheet out
      → Whole setup sheet (found ran.between store)
  unfolding finish_of part_of
  finished out ran h g = record { input = []; is = left_by_lem ran (end_of setup sheet) out (g ∙ rw (le-leb 168 (length out) h)) }

-- ---- one behind the other

module _ (setup : Setup) {before middle left : Sheet} (part : Part setup before middle) where
  pub part-part : Part setup middle left → Part setup before left
  part-part next =
      let sheet = part_of setup before part.input in
      record {
        input = part.input ++ next.input;
        is = next.is ∙ ap (λ (x : Sheet). no_text (part_of setup x next.input)) part.is ∙ part-bare setup sheet next.input
            ∙ ap (λ (x : Sheet). no_text x) (sym (part-append setup before part.input next.input));
      }

  pub part_end : Whole setup middle left → Whole setup before left
  part_end next =
      let sheet = part_of setup before part.input in
      record {
        input = part.input ++ next.input;
        is = next.is ∙ ap (λ (x : Sheet). no_text (end_of setup (part_of setup x next.input))) part.is
            ∙ sym (end-bare setup (part_of setup (no_text sheet) next.input))
            ∙ ap (λ (x : Sheet). no_text (end_of setup x)) (part-bare setup sheet next.input) ∙ end-bare setup (part_of setup sheet next.input)
            ∙ ap (λ (x : Sheet). no_text (end_of setup x)) (sym (part-append setup before part.input next.input));
      }

-- nothing was read yet
pub no_part : (setup : Setup) (between : Between) (store : List ℕ) → Part setup (found between store) (found between store)
unfolding part_of
no_part setup between store = record { input = []; is = refl }

-- ---- from the beginning to the end

pub all_lines : (setup : Setup) (out : List ℕ) (ran : Ran) (between : Between) {store store' out' : List ℕ} → is_accepted (found_in setup.bank) ≡ true
    → after ran store out' ≡ start_of setup (replicate 423 0) out → Whole setup (found ran.between store) (found between store')
    → All setup (state_of between.state)
all_lines setup out ran between ok h whole =
    record {
      accepted = ok;
      input = whole.input;
      is = ap (λ (x : Sheet). x.state) whole.is
          ∙ ap (λ (x : Sheet). (end_of setup (part_of setup x whole.input)).state) (start-leaves setup out ran h)
          ∙ ap (λ (x : Sheet). x.state) (all-input setup whole.input);
    }
