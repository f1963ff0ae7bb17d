-- `command::press::taken` meets its contract. Assumes nothing.
-- ---- select
-- ---- what a command does, by its case
use Prim.Native.Nat.{◌<◌}
use mathlib.Core.Path.{◌≡◌, refl, ap, ◌∙◌, subst}
use mathlib.Core.Bool.{Bool, true, false, false≢true, cond, not}
use native.Mathlib.Omega.{arith}
use lib.Dec.{T, leb}
use lib.IntN.{ℤ, pos, negsuc, nat_abs}
use lib.Signed.{non_neg}
use mir.Syntax.{w32}
use mir.Facts.{to_z-of_z}
use mir.Val.{SFits}
use borrow.Author.Rules.{rules}
use borrow.Author.Tests.{leb-true}
use Rattle.setting.specs.declared.Settings.{Settings}
use Rattle.position.specs.declared.Position.{Position}
use Rattle.position.specs.declared.Here.{Here}
use Rattle.position.specs.declared.Command.{Command}
use Rattle.position.specs.Tests.{both, within}
use Rattle.position.specs.Command.{selects_of, is_start, stop_position, plus_moves, minus_moves, stuck_of, command_position}
use Rattle.position.proofs.Tests.{both_right}
use Rattle.plain.specs.declared.Refusal.{Refusal}
use Rattle.plain.specs.Refusals.{command_move}
use Rattle.command.specs.Moves.{Takes, plus_move, minus_move}
use Rattle.command.proofs.Laws.{taken_is}
use Rattle.command.proofs.press.taken.Goals as goal
use Rattle.std.specs.Prelude.{Option}
use Rattle.std.specs.Prelude.{Result}
use Rattle.std.specs.Prelude.{Ok, Err}

-- a pattern that can be selected is a number of 8 bits
record Small (q : ℤ) : Type 0 where
  sign : T (non_neg q)
  size : nat_abs q < 256

small : (settings : Settings) → settings.patterns < 256 → (q : ℤ) → selects_of settings (Command.Select q) ≡ true → Small q
unfolding selects_of within both
small settings l (pos m) h =
    record { sign = tt; size = omega (arith, leb-true m settings.patterns (both_right (leb 1 m) _ h), l) }
small settings l (negsuc m) h = absurd (false≢true h)

turned : (moves : Bool) (x y : Result Position Refusal) → cond moves x y ≡ cond (not moves) y x
turned true x y = refl
turned false x y = refl

-- one that is no start goes where its row says, or is refused 30 where it cannot move
module _ {settings : Settings} {position : Position} {pressed command : Command} (is : pressed ≡ command) (t : Takes settings position pressed)
    (here first : Here) (value : Option ℤ) where
  goes : (moves : Bool) → is_start command ≡ false → stuck_of here position command ≡ not moves
      → cond moves (Ok (command_position settings here first value position command)) (Err Refusal.Stuck)
      ≡ command_move settings here first value position pressed
  unfolding both
  goes moves x y =
      rw (is, taken_is settings here first value position command (subst (Takes settings position) is t), x, y) (turned moves _ _)

pub overflow_cast-q : goal.overflow_cast-q
overflow_cast-q c =
    let fits : SFits w32 c.in-Select.q = search rules in
    let h = small c.args.settings (search rules) c.in-Select.q (rw c.in-Select.is at c.requires.selects) in
    rw (to_z-of_z fits) (h.sign, record { fits = h.size })

pub returns-in-Select : goal.returns-in-Select
unfolding is_start stuck_of command_position
returns-in-Select c =
    let fits : SFits w32 c.in-Select.q = search rules in
    ap Ok (c.stopped.ensures ∙ ap (λ (z : ℤ). stop_position (nat_abs z)) (to_z-of_z fits))
    ∙ goes c.in-Select.is c.requires _ _ _ true refl refl

pub start-requires : goal.start-requires
start-requires c = (subst (Takes c.args.settings c.args.position) c.in-Start.is c.requires).takes

pub returns-in-Start : goal.returns-in-Start
returns-in-Start c = rw c.in-Start.is c.start.ensures

pub returns-in-Pause : goal.returns-in-Pause
unfolding is_start stuck_of command_position
returns-in-Pause c = ap Ok c.paused.ensures ∙ goes c.in-Pause.is c.requires _ _ _ true refl refl

pub returns-in-Reset : goal.returns-in-Reset
unfolding is_start stuck_of command_position
returns-in-Reset c = ap Ok c.stopped-in-Reset.ensures ∙ goes c.in-Reset.is c.requires _ _ _ true refl refl

pub returns-in-Feed : goal.returns-in-Feed
unfolding is_start stuck_of command_position
returns-in-Feed c = ap Ok c.feed.ensures ∙ goes c.in-Feed.is c.requires _ _ _ true refl refl

pub returns-in-Back : goal.returns-in-Back
unfolding is_start stuck_of command_position
returns-in-Back c = ap Ok c.back.ensures ∙ goes c.in-Back.is c.requires _ _ _ true refl refl

pub returns-in-Plus : goal.returns-in-Plus
unfolding is_start stuck_of command_position plus_move
returns-in-Plus c =
    c.plus.ensures ∙ goes c.in-Plus.is c.requires _ _ _ (plus_moves c.args.here c.args.position) refl refl

pub returns-in-Minus : goal.returns-in-Minus
unfolding is_start stuck_of command_position minus_move
returns-in-Minus c =
    c.minus.ensures ∙ goes c.in-Minus.is c.requires _ _ _ (minus_moves c.args.here c.args.position) refl refl
