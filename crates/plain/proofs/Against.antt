-- Laws that shut out wrong controllers by name: those that the document's review names, and the mistakes seen in other controllers. What
-- happens to a position alone is in `position`, what happens in a list is demand 3.
-- Assumes nothing.
use mathlib.Core.Path.{◌≡◌, refl, ap, ◌∙◌}
use mathlib.Core.Bool.{Bool, true, false, cond, not}
use mathlib.Core.List.{List, [], ◌∷◌, map}
use Prim.Native.Nat.{ℕ, ◌+◌}
use borrow.Author.Tests.{eq-eqb, ne_eqb}
use lib.Dec.{eqb}
use lib.IntN.{ℤ, pos}
use lib.ListN.{take, drop, replicate}
use Rattle.field.specs.Field.{digits}
use Rattle.field.specs.Row.{row, total}
use Rattle.measure.specs.Filter.{after_of, first_of, whole_of, outside_of}
use Rattle.measure.specs.declared.Reading.{Reading}
use Rattle.position.specs.Tests.{both, either, all}
use Rattle.position.specs.Program.{active, set_value_of, tick_position}
use Rattle.position.specs.Command.{takes_of, is_start, pause_position, feed_position, command_position}
use Rattle.position.specs.Return.{return_position, readable_of}
use Rattle.position.specs.declared.Position.{Position}
use Rattle.position.specs.declared.Command.{Command}
use Rattle.position.proofs.Tests.{either-right, choice}
use Rattle.alarm.specs.Alarm.{all_in_range, all_clear, kept_in, tick_alarms, all_bounded}
use Rattle.alarm.specs.declared.Alarms.{Alarms}
use Rattle.alarm.proofs.Ticks.{unfiltered-stays, unjudged-stays}
use Rattle.plain.specs.declared.Run.{Run}
use Rattle.plain.specs.declared.Credit.{Credit}
use Rattle.plain.specs.declared.Event.{Event}
use Rattle.plain.specs.declared.Refusal.{Refusal}
use Rattle.plain.specs.declared.Effect.{Effect}
use Rattle.plain.specs.Record.{widths_of, numbers_in, Checkpoint, credit_widths, record_size, credits_from, alarms_from, record_of, credits_in, sized}
use Rattle.plain.specs.Setup.{Setup, Usable, settings_in, here_in, first_in}
use Rattle.plain.specs.Answer.{number_of, Answer}
use Rattle.plain.specs.Run.{readable_in, sound_by, sound_in, shown_in, cooked, credited, measuring, counting, stepping, tick_by, judging, tick_run, tick_credit}
use Rattle.plain.specs.Run.{tick_saves, command_run, command_credit, return_by, return_run}
use Rattle.plain.specs.Refusals.{Row, Retained, sound_state, event_rows}
use Rattle.plain.specs.Event.{fresh, dark_run, dark, record_for, applied, unchanged, refused, accepted, tick_effect, press_effect, cut_effect, brought_back}
use Rattle.plain.specs.Event.{return_effect, retained_in, known_effect, event_effect, event_outcome, make_outcome}
use Rattle.plain.specs.Replay.{tick, plain_effect}
use Rattle.plain.specs.Listed.{event_of_kind}
use Rattle.std.specs.Prelude.{Option, None, Some, Ok}

-- both fail by the second
never : (test : Bool) → both test false ≡ false
unfolding both
never true = refl
never false = refl

module _ (setup : Setup) (run : Run) (reading : Reading) where
  -- not all is refused: a tick on a sound run, with a reading in range, does what a tick does
  pub tick-done : all_in_range setup.config.alarms ≡ true → sound_in setup run ≡ true → outside_of reading ≡ false
      → plain_effect setup true run (tick reading) ≡ tick_effect setup run reading
  unfolding plain_effect sound_state both either
  tick-done right sound inside =
      λ i. cond (not (sound i)) (refused true run Refusal.Unsound)
      (cond (not (right i)) (refused true run Refusal.AlarmSetting)
      (cond (inside i) (refused true run Refusal.Outside) (tick_effect setup run reading)))

  -- no tick is ignored: the position that it leaves is the tick's, judged by the reading that it brings
  pub tick-moves : (tick_run setup reading run).position
      ≡ tick_position (here_in setup run.position) (whole_of (after_of run.measured reading (settings_in setup).filter)) run.position
  unfolding tick_by counting stepping measuring judging
  tick-moves = refl

  -- its credit is that of the mode and step before it
  pub tick-before : (tick_effect setup run reading).credit ≡ tick_credit run.position
  tick-before = refl

  -- u is not counted while running alone: whatever the mode, a tick adds 1 to it
  pub u-counts : (tick_run setup reading run).unsaved ≡ run.unsaved + 1
  unfolding tick_by counting stepping measuring judging
  u-counts = refl

  -- the alarms are judged after the tick's own step: by the mode, the measured whole value and the set value that it leaves
  pub tick-judges : let after = tick_by (settings_in setup) (here_in setup run.position) reading run in
      (tick_run setup reading run).alarms
      ≡ tick_alarms setup.config.alarms after.position.mode (whole_of after.measured)
      (set_value_of (here_in setup after.position) after.position) run.alarms
  unfolding tick_by counting stepping measuring judging
  tick-judges = refl

  -- so a tick that leaves no filtered value, or a mode other than 1 and 2, leaves flags and counts
  pub tick-unfiltered : whole_of (tick_run setup reading run).measured ≡ None → (tick_run setup reading run).alarms ≡ run.alarms
  unfolding judging
  tick-unfiltered none =
      let after = tick_by (settings_in setup) (here_in setup run.position) reading run in
      let set = set_value_of (here_in setup after.position) after.position in
      tick-judges ∙ ap (λ (whole : Option ℤ). tick_alarms setup.config.alarms after.position.mode whole set run.alarms) none
      ∙ unfiltered-stays setup.config.alarms set run.alarms after.position.mode

  pub tick-unjudged : ((tick_run setup reading run).position.mode ≡ 1 → ⊥) → ((tick_run setup reading run).position.mode ≡ 2 → ⊥)
      → (tick_run setup reading run).alarms ≡ run.alarms
  unfolding judging
  tick-unjudged running paused =
      let after = tick_by (settings_in setup) (here_in setup run.position) reading run in
      let set = set_value_of (here_in setup after.position) after.position in
      tick-judges ∙ unjudged-stays setup.config.alarms set run.alarms after.position.mode (whole_of after.measured) running paused

  -- and nothing of an alarm makes a tick save
  pub alarms-save-nothing : (after : Run) (alarms : Alarms)
      → tick_saves run (record { position = after.position; unsaved = after.unsaved; measured = after.measured; alarms = alarms }) ≡ tick_saves run after
  unfolding tick_saves
  alarms-save-nothing after alarms = refl

  -- a return forgets the measured value and u of before
  pub return-first : ((return_run setup reading run).measured ≡ first_of reading) × ((return_run setup reading run).unsaved ≡ 0)
  unfolding return_by
  return-first = (refl, refl)

-- no command is ignored: the position that it leaves is the command's
pub press-moves : (setup : Setup) (run : Run) (command : Command)
    → let position = run.position in
    (press_effect setup run command).run.position
    ≡ command_position (settings_in setup) (here_in setup position) (first_in setup position) (whole_of run.measured) position command
press-moves setup run command = refl

-- and its credit is the command's own, wherever it moves e: plus is not cooked time
pub press-credit : (setup : Setup) (run : Run) (command : Command) → (press_effect setup run command).credit ≡ command_credit command
press-credit setup run command = refl

-- a start clears flags and counts, at whichever step it begins; and so does any move to stopped: select, reset, and a return with choice 0
pub start-clears : (setup : Setup) (run : Run) → (command_run setup Command.Start run).alarms ≡ all_clear
unfolding is_start takes_of either kept_in
start-clears setup run =
    choice (λ (alarms : Alarms). alarms ≡ all_clear) (eqb (command_run setup Command.Start run).position.mode 0) (λ _. refl) (λ _. refl)

pub stop-clears : (setup : Setup) (run : Run) (q : ℤ)
    → ((command_run setup (Command.Select q) run).alarms ≡ all_clear) × ((command_run setup Command.Reset run).alarms ≡ all_clear)
unfolding is_start takes_of either command_position kept_in
stop-clears setup run q = (refl, refl)

pub return-clears : (setup : Setup) (reading : Reading) (run : Run) → (settings_in setup).outage ≡ 0 → active run.position ≡ true
    → (return_run setup reading run).alarms ≡ all_clear
unfolding return_by return_position kept_in
return-clears setup reading run stops runs = rw (runs, stops)

-- no other command does: a pause, and a feed that ends the run, keep them
pub pause-keeps : (setup : Setup) (run : Run) → (command_run setup Command.Pause run).alarms ≡ run.alarms
unfolding is_start takes_of either command_position pause_position kept_in
pause-keeps setup run = choice (λ (mode : ℕ). kept_in mode run.alarms ≡ run.alarms) (eqb run.position.mode 1) (λ _. refl) (λ _. refl)

pub end-keeps : (setup : Setup) (run : Run) → (here_in setup run.position).endless ≡ true → (command_run setup Command.Feed run).alarms ≡ run.alarms
unfolding is_start takes_of either command_position feed_position kept_in
end-keeps setup run endless = rw endless

-- not every record is unreadable: over an accepted bank, a return with a reading in range that finds a readable record brings it back
pub return-done : (setup : Setup) (store : List ℕ) (reading : Reading) → Usable setup → sized store ≡ true
    → readable_in setup (brought_back store) ≡ true → outside_of reading ≡ false
    → event_outcome setup store dark (Event.Return reading) ≡ applied store dark.credits (return_effect setup store reading)
unfolding event_outcome event_effect known_effect retained_in sound_state dark both either
return-done setup store reading ok whole readable inside =
    let deny = refused false dark_run in
    rw ok.bank
    (λ i. applied store dark.credits
    (cond (not (whole i)) (deny Refusal.Buffer)
    (cond (not (ok.alarms i)) (deny Refusal.AlarmSetting)
    (cond (inside i) (deny Refusal.Outside)
    (cond (not (readable i)) (deny Refusal.Unreadable) (return_effect setup store reading))))))

-- and not every record is readable: none is whose flags or counts are out of their bounds, whatever its position
pub alarms-unreadable : (setup : Setup) (run : Run) → all_bounded setup.config.alarms run.position.mode run.alarms ≡ false → readable_in setup run ≡ false
unfolding all both
alarms-unreadable setup run out =
    let placed = readable_of (settings_in setup) (here_in setup run.position) run.position in
    ap (λ (test : Bool). all (placed ∷ test ∷ [])) out ∙ never placed

-- no answer is constant: an accepted one carries the set value and the signals of the run that is left
pub carries : (setup : Setup) (credit : Credit) (saves : Bool) (run : Run)
    → (accepted setup credit saves run).answer ≡ Ok (shown_in setup (accepted setup credit saves run).run)
carries setup credit true run = refl
carries setup credit false run = refl

-- no credit is copied from e: a tick in mode 1 adds 1 to that of its step, any other tick leaves all
pub tick-credits : (position : Position) (recorded credits : List ℕ) → position.mode ≡ 1
    → credited (tick_credit position) recorded credits ≡ cooked credits position.step
unfolding tick_credit credited
tick-credits position recorded credits running = rw running

pub tick-keeps : (position : Position) (recorded credits : List ℕ) → (position.mode ≡ 1 → ⊥) → credited (tick_credit position) recorded credits ≡ credits
unfolding tick_credit credited
tick-keeps position recorded credits idle =
    ap (λ (test : Bool). credited (cond test (Credit.Cook position.step) Credit.Keep) recorded credits) (ne_eqb position.mode 1 idle)

-- and what an event leaves of them is what its effect says, from those of the record and those of before
pub credits-left : (store credits : List ℕ) (effect : Effect)
    → (applied store credits effect).state.credits ≡ credited effect.credit (credits_in store) credits
credits-left store credits effect = refl

-- a tick adds 1 and no more, to its step alone, held at 4,294,967,295
pub one-second : (cooked (5 ∷ 6 ∷ 7 ∷ []) 2 ≡ 5 ∷ 7 ∷ 7 ∷ []) × (cooked (4294967295 ∷ []) 1 ≡ 4294967295 ∷ [])
unfolding cooked
one-second = (refl, refl)

-- none is invented: the fresh state has none, a start leaves 0, and a return those of the record
pub fresh-credits : fresh.credits ≡ replicate 99 0
unfolding fresh
fresh-credits = refl

pub start-credits : (recorded credits : List ℕ) → credited (command_credit Command.Start) recorded credits ≡ replicate 99 0
unfolding is_start takes_of either credited
start-credits recorded credits = refl

pub return-credits : (setup : Setup) (store credits : List ℕ) (reading : Reading)
    → (applied store credits (return_effect setup store reading)).state.credits ≡ credits_in store
unfolding credited
return-credits setup store credits reading = refl

-- plus is not credited, and a reset does not clear: of the commands only start touches the credits
pub others_keep : (command : Command) (recorded credits : List ℕ) → is_start command ≡ false → credited (command_credit command) recorded credits ≡ credits
unfolding credited
others_keep command recorded credits holds = rw holds

pub plus-keeps : (recorded credits : List ℕ) → credited (command_credit Command.Plus) recorded credits ≡ credits
unfolding is_start takes_of either credited
plus-keeps recorded credits = refl

pub reset-keeps : (recorded credits : List ℕ) → credited (command_credit Command.Reset) recorded credits ≡ credits
unfolding is_start takes_of either credited
reset-keeps recorded credits = refl

-- the second of the cut is not restored: a tick that changes neither mode, step nor pass, nor makes u 60, does not save
pub quiet-tick : (before after : Run) → before.position.mode ≡ after.position.mode → before.position.step ≡ after.position.step
    → before.position.pass ≡ after.position.pass → (after.unsaved ≡ 60 → ⊥) → tick_saves before after ≡ false
unfolding tick_saves either
quiet-tick before after mode step pass few = rw (eq-eqb _ _ mode, eq-eqb _ _ step, eq-eqb _ _ pass) (ne_eqb _ _ few)

-- and the tick that makes u 60 does, not the one after it
pub minute-saves : (before after : Run) → after.unsaved ≡ 60 → tick_saves before after ≡ true
unfolding tick_saves
minute-saves before after holds = either-right _ _ (either-right _ _ (either-right _ _ (eq-eqb _ _ holds)))

-- no state has counted 60
pub u-below : (setup : Setup) (run : Run) → run.unsaved ≡ 60 → sound_in setup run ≡ false
unfolding sound_by all both
u-below setup run holds = rw holds (never (readable_in setup run))

-- a cut leaves the record as it is, and loses the rest
pub cut_record : (setup : Setup) (store credits : List ℕ) → (applied store credits (cut_effect setup)).store ≡ store
unfolding cut_effect
cut_record setup store credits = refl

pub cut-state : (setup : Setup) (store credits : List ℕ) → (applied store credits (cut_effect setup)).state ≡ dark
unfolding cut_effect credited dark
cut-state setup store credits = refl

-- a refusal leaves the record too
pub refused-record : (power : Bool) (run : Run) (answer : Answer) (store credits : List ℕ) → (applied store credits (unchanged power run answer)).store ≡ store
refused-record power run answer store credits = refl

-- making saves before any event
pub made-saves : (setup : Setup) (store : List ℕ) → Usable setup → sized store ≡ true
    → (make_outcome setup store).store ≡ record_for fresh.run fresh.credits
unfolding make_outcome retained_in
made-saves setup store ok whole = rw (ok.bank, whole, ok.alarms)

-- ---- the order of refusals

-- the numbers of rows
abbrev numbers : List Row → List ℕ
numbers rows = map (λ (row : Row). number_of row.0) rows

-- lower numbers come first, for every event; 41 comes directly after 22
pub rows-in-order : (setup : Setup) (retained : Retained) (power : Bool) (run : Run) (reading : Reading) (command : Command)
    → (numbers (event_rows setup retained power run (Event.Tick reading)) ≡ 21 ∷ 22 ∷ 41 ∷ 23 ∷ 24 ∷ 25 ∷ 31 ∷ [])
    × (numbers (event_rows setup retained power run (Event.Press command)) ≡ 21 ∷ 22 ∷ 41 ∷ 23 ∷ 24 ∷ 25 ∷ 26 ∷ 27 ∷ 28 ∷ 29 ∷ 30 ∷ 31 ∷ [])
    × (numbers (event_rows setup retained power run Event.Cut) ≡ 21 ∷ 22 ∷ 41 ∷ 23 ∷ 24 ∷ 25 ∷ 31 ∷ [])
    × (numbers (event_rows setup retained power run (Event.Return reading)) ≡ 21 ∷ 22 ∷ 41 ∷ 23 ∷ 24 ∷ 25 ∷ 31 ∷ [])
unfolding number_of
rows-in-order setup retained power run reading command = (refl, refl, refl, refl)

-- ---- bytes

-- the record has 423 bytes, its credits begin at 15, its alarms at 411
pub record-bytes : (record_size ≡ 423) × (credits_from ≡ 15) × (alarms_from ≡ 411)
unfolding widths_of credit_widths total
record-bytes = (refl, refl, refl)

-- mode, p, k, r, e, w, b, then the credits, then alarm by alarm flags and count, low byte first, whatever a reader of the same mind would read back
abbrev example : Checkpoint
example =
    record {
      position = record { mode = 1; pattern = 2; step = 3; pass = 1284; elapsed = 6; waited = 7; base = pos 8 };
      credits = replicate 99 9;
      alarms =
          record {
            first = record { flags = 1; count = 515 };
            second = record { flags = 2; count = 4 };
            third = record { flags = 3; count = 5 };
            fourth = record { flags = 0; count = 6 };
          };
    }

pub record-end : drop 407 (record_of example) ≡ 9 ∷ 0 ∷ 0 ∷ 0 ∷ 1 ∷ 3 ∷ 2 ∷ 2 ∷ 4 ∷ 0 ∷ 3 ∷ 5 ∷ 0 ∷ 0 ∷ 6 ∷ 0 ∷ []
unfolding record_of widths_of numbers_in credit_widths row digits
record-end = refl

pub record-order : take 19 (record_of example)
    ≡ 1 ∷ 2 ∷ 3 ∷ 4 ∷ 5 ∷ 6 ∷ 0 ∷ 0 ∷ 0 ∷ 7 ∷ 0 ∷ 0 ∷ 0 ∷ 8 ∷ 0 ∷ 9 ∷ 0 ∷ 0 ∷ 0 ∷ []
unfolding record_of widths_of numbers_in credit_widths row digits
record-order = refl

-- the kinds of a list of events, 0 to 14
pub kinds : (v : ℤ)
    → map (λ (kind : ℕ). event_of_kind kind v) (0 ∷ 1 ∷ 2 ∷ 3 ∷ 4 ∷ 5 ∷ 6 ∷ 7 ∷ 8 ∷ 9 ∷ 10 ∷ 11 ∷ 12 ∷ 13 ∷ 14 ∷ [])
    ≡ Some (Event.Tick (Reading.Value v))
    ∷ Some (Event.Tick Reading.Over)
    ∷ Some (Event.Tick Reading.Under)
    ∷ Some (Event.Press (Command.Select v))
    ∷ Some (Event.Press Command.Start)
    ∷ Some (Event.Press Command.Pause)
    ∷ Some (Event.Press Command.Reset)
    ∷ Some (Event.Press Command.Feed)
    ∷ Some (Event.Press Command.Back)
    ∷ Some (Event.Press Command.Plus)
    ∷ Some (Event.Press Command.Minus)
    ∷ Some Event.Cut
    ∷ Some (Event.Return (Reading.Value v))
    ∷ Some (Event.Return Reading.Over)
    ∷ Some (Event.Return Reading.Under)
    ∷ []
unfolding event_of_kind
kinds v = refl
