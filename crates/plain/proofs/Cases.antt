-- An answer by its case.
-- Assumes nothing.
use mathlib.Core.Path.{◌≡◌, ap}
use mathlib.Core.Bool.{true, false}
use Rattle.std.specs.Prelude.{Ok, Err}
use Rattle.position.specs.declared.Shown.{Shown}
use Rattle.plain.specs.Answer.{Answer, is_accepted}
use Rattle.plain.specs.declared.AnyRefusal.{AnyRefusal}

pub is-accepted : {answer : Answer} {shown : Shown} → answer ≡ Ok shown → is_accepted answer ≡ true
unfolding is_accepted
is-accepted is = ap is_accepted is

pub is-refused : {answer : Answer} {refusal : AnyRefusal} → answer ≡ Err refusal → is_accepted answer ≡ false
unfolding is_accepted
is-refused is = ap is_accepted is
