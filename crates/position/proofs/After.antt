-- What is kept from one event to the next is what the bank says. Assumes nothing.
use Prim.Native.Nat.{ℕ}
use mathlib.Core.Path.{◌≡◌, refl, ◌∙◌}
use mathlib.Core.List.{List}
use borrow.Author.Tests.{eqb-true, not-false}
use Rattle.setting.specs.declared.Settings.{Settings}
use Rattle.bank.specs.View.{place_of}
use Rattle.position.specs.declared.Position.{Position}
use Rattle.position.specs.declared.Here.{Here}
use Rattle.position.specs.Program.{here_at, said_at}
use Rattle.position.specs.After.{moved, here_after}
use Rattle.position.proofs.Tests.{either-false, choice}

-- where it was known before, it is known after
pub after-said : (bank : List ℕ) (settings : Settings) (here : Here) (before position : Position) → here ≡ said_at bank settings before
    → here_after bank settings here before position ≡ said_at bank settings position
unfolding here_after moved
after-said bank settings here before position known =
    choice (λ (there : Here). there ≡ said_at bank settings position) (moved before position) (λ _. refl)
    (λ unmoved.
    let rest = (either-false _ _ unmoved).1 in
    let pattern : before.pattern ≡ position.pattern = eqb-true _ _ (not-false _ (either-false _ _ unmoved).0) in
    let step : before.step ≡ position.step = eqb-true _ _ (not-false _ (either-false _ _ rest).0) in
    let pass : before.pass ≡ position.pass = eqb-true _ _ (not-false _ (either-false _ _ rest).1) in
    known ∙ (λ i. here_at settings (place_of bank (pattern i) (step i)) (step i) (pass i)))
