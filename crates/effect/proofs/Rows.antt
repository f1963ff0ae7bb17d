-- The rows of refusals on a sound state, with a record of its size, event by event: what the code decides one test after the other.
-- Assumes nothing.
use mathlib.Core.Path.{◌≡◌, refl, sym, ap, ◌∙◌, subst}
use mathlib.Core.Bool.{Bool, true, false, not, ◌&&◌, false≢true}
use mathlib.Core.List.{List}
use Prim.Native.Nat.{ℕ}
use Rattle.std.specs.Prelude.{Option, Result, Ok, Err, ℤ}
use Rattle.setting.specs.declared.Settings.{Settings}
use Rattle.setting.specs.declared.BankRefusal.{BankRefusal}
use Rattle.setting.specs.Found.{Checked, Accepted, numbers_of}
use Rattle.setting.proofs.Laws.{numbers-tell}
use Rattle.bank.specs.Check.{found_in}
use Rattle.measure.specs.Filter.{whole_of, outside_of}
use Rattle.measure.specs.declared.Reading.{Reading}
use Rattle.position.specs.Tests.{both, all}
use Rattle.position.specs.Program.{said_at, first_at}
use Rattle.position.specs.Return.{readable_of}
use Rattle.position.specs.declared.Position.{Position}
use Rattle.position.specs.declared.Here.{Here}
use Rattle.position.specs.declared.Command.{Command}
use Rattle.position.proofs.Tests.{both-and, both-on}
use Rattle.alarm.specs.Alarm.{kept_in, all_in_range}
use Rattle.plain.specs.declared.Config.{Config}
use Rattle.plain.specs.declared.Run.{Run}
use Rattle.plain.specs.declared.Credit.{Credit}
use Rattle.plain.specs.declared.Event.{Event}
use Rattle.plain.specs.declared.Refusal.{Refusal}
use Rattle.plain.specs.declared.AnyRefusal.{AnyRefusal}
use Rattle.plain.specs.declared.Effect.{Effect}
use Rattle.plain.specs.Record.{position_in, alarms_in, sized}
use Rattle.plain.specs.Setup.{Setup, over, settings_in, here_in}
use Rattle.plain.specs.Run.{moved_to, cleared_by, sound_by, sound_in, readable_in, tick_by, judging, judged_in, tick_credit, tick_saves, command_credit, return_by, return_run}
use Rattle.plain.specs.Refusals.{is_return, command_rows, command_move}
use Rattle.plain.specs.Event.{unchanged, refused, accepted, tick_effect, cut_effect, return_effect, brought_back, retained_in, known_effect, event_effect}
use Rattle.effect.specs.declared.Progress.{Progress}
use Rattle.effect.specs.declared.Done.{Done}
use Rattle.effect.specs.Known.{Known, Ready}
use Rattle.effect.specs.Done.{progress_of, with_alarms, IsSaving, BroughtBack, Returned, accepted_done, credit_by, alarms_by, record_bounded, effect_of, effect_if, DoesOver}
use Rattle.effect.proofs.Laws.{said_in, first-in, unsound, sound-state, judged-of}

-- an accepted event, with what becomes of credits and alarms and what is shown of the run that it leaves
pub accepted-effect : (setup : Setup) (store : List ℕ) (run : Run) (event : Event) (saves : Bool) (left : Progress)
    → effect_of setup store run event (accepted_done saves left)
    ≡ accepted setup (credit_by event run.position) saves
    (with_alarms left (alarms_by setup.config (here_in setup left.position) store event run.alarms left.position left.measured))
accepted-effect setup store run event true left = refl
accepted-effect setup store run event false left = refl

-- of a tick: what its own step leaves, with the alarms that are judged by it
pub ticked-effect : (setup : Setup) (store : List ℕ) (run : Run) (reading : Reading) (saves : Bool) (left : Progress)
    → with_alarms left run.alarms ≡ tick_by (settings_in setup) (here_in setup run.position) reading run
    → IsSaving (progress_of run) left saves
    → effect_of setup store run (Event.Tick reading) (accepted_done saves left) ≡ tick_effect setup run reading
unfolding judging
ticked-effect setup store run reading saves left is saving =
    accepted-effect setup store run (Event.Tick reading) saves left
    ∙ rw (saving run.alarms (judged_in setup (with_alarms left run.alarms)).alarms)
    (ap (λ (next : Run). accepted setup (tick_credit run.position) (tick_saves run (judged_in setup next)) (judged_in setup next)) is)

-- of a return: what the choices leave, with the record's alarms
pub returned-effect : (setup : Setup) (store : List ℕ) (run : Run) (reading : Reading) (left : Progress)
    → with_alarms left (kept_in left.position.mode (alarms_in store)) ≡ return_run setup reading (brought_back store)
    → effect_of setup store run (Event.Return reading) (accepted_done true left) ≡ return_effect setup store reading
returned-effect setup store run reading left is = ap (accepted setup Credit.Restore true) is

-- what a command's move does
abbrev pub on_move : Setup → Bool → Run → Command → Result Position Refusal → Effect
on_move setup power run command (Ok position) = accepted setup (command_credit command) true (moved_to (cleared_by command run) position)
on_move setup power run command (Err refusal) = refused power run refusal

module _ {setup : Setup} {store : List ℕ} {power : Bool} {run : Run} {settings : Settings} {here : Here}
    (ready : Ready setup store power run settings here) where
  -- 23
  pub off-refuses : (event : Event) → is_return event ≡ false → power ≡ false
      → refused power run Refusal.PowerOff ≡ known_effect setup store power run event
  unfolding known_effect retained_in both
  off-refuses (Event.Tick reading) other off = sym (rw (ready.sound.sound, ready.whole, ready.sound.alarms, off))
  off-refuses (Event.Press command) other off = sym (rw (ready.sound.sound, ready.whole, ready.sound.alarms, off))
  off-refuses Event.Cut other off = sym (rw (ready.sound.sound, ready.whole, ready.sound.alarms, off))
  off-refuses (Event.Return reading) other off = absurd (false≢true (sym other))

  -- ---- with power on

  module _ (on : power ≡ true) where
    -- 24
    pub on-refuses : (reading : Reading) → refused power run Refusal.PowerOn ≡ known_effect setup store power run (Event.Return reading)
    unfolding known_effect retained_in both
    on-refuses reading = sym (rw (ready.sound.sound, ready.whole, ready.sound.alarms, on))

    -- 25
    pub tick-outside : (reading : Reading) → outside_of reading ≡ true
        → refused power run Refusal.Outside ≡ known_effect setup store power run (Event.Tick reading)
    unfolding known_effect retained_in both
    tick-outside reading outside = sym (rw (ready.sound.sound, ready.whole, ready.sound.alarms, on, outside))

    -- what its own step leaves
    pub ticked : (reading : Reading) → outside_of reading ≡ false → {saves : Bool} {left : Progress}
        → with_alarms left run.alarms ≡ tick_by settings here reading run → IsSaving (progress_of run) left saves
        → effect_of setup store run (Event.Tick reading) (accepted_done saves left) ≡ known_effect setup store power run (Event.Tick reading)
    unfolding known_effect retained_in both
    ticked reading inside {saves} {left} is saving =
        ticked-effect setup store run reading saves left
        (is ∙ rw (said_in setup run.position ready.sound.known, ready.sound.known.settings-are)) saving
        ∙ sym (rw (ready.sound.sound, ready.whole, ready.sound.alarms, on, inside))

    -- 26 to 30, and where it goes
    pub pressed : (command : Command) {whole : Option ℤ} → whole ≡ whole_of run.measured → (made move : Result Position Refusal)
        → made ≡ command_move settings here (first_at setup.bank settings run.position) whole run.position command → made ≡ move
        → on_move setup power run command move ≡ known_effect setup store power run (Event.Press command)
    unfolding known_effect retained_in command_move both
    pressed command whole-is made move made-is is =
        let known = ready.sound.known in
        let position = run.position in
        ap (on_move setup power run command)
        (sym is ∙ made-is
        ∙ (λ i. command_move (known.settings-are i) (said_in setup position known i) (first-in setup position known i) (whole-is i) position command))
        ∙ sym (rw (ready.sound.sound, ready.whole, ready.sound.alarms, on)
        (sym
        (judged-of (on_move setup true run command)
        (command_rows (settings_in setup) (here_in setup position) (whole_of run.measured) position command) Err _)))

    pub cut_on : cut_effect setup ≡ known_effect setup store power run Event.Cut
    unfolding known_effect retained_in both
    cut_on = sym (rw (ready.sound.sound, ready.whole, ready.sound.alarms, on))

  -- ---- a return, with power off

  module _ (off : power ≡ false) (reading : Reading) where
    -- 25
    pub return-outside : outside_of reading ≡ true → refused power run Refusal.Outside ≡ known_effect setup store power run (Event.Return reading)
    unfolding known_effect retained_in both
    return-outside outside = sym (rw (ready.sound.sound, ready.whole, ready.sound.alarms, off, outside))

    module _ (inside : outside_of reading ≡ false) {back : Progress} {there : Here} {fits bounded : Bool} (brought : BroughtBack store back)
        (there-is : there ≡ said_at setup.bank settings back.position) (fits-is : fits ≡ readable_of settings there back.position)
        (bounded-is : bounded ≡ record_bounded setup.config store) where
      readable-is : (fits && bounded) ≡ readable_in setup (brought_back store)
      unfolding here_in brought_back all
      readable-is =
          let position-is : back.position ≡ position_in store = ap (λ (run : Run). run.position) brought in
          rw (fits-is, bounded-is, there-is, position-is, ready.sound.known.settings-are) (simp (both-on, both-and))

      -- 31
      pub return-unreadable : (fits && bounded) ≡ false → refused power run Refusal.Unreadable ≡ known_effect setup store power run (Event.Return reading)
      unfolding known_effect retained_in both
      return-unreadable h = sym (rw (ready.sound.sound, ready.whole, ready.sound.alarms, off, inside, sym readable-is ∙ h))

      -- what the choices leave
      pub returned : (fits && bounded) ≡ true → {left : Progress} → Returned (return_by settings there reading) back left
          → effect_of setup store run (Event.Return reading) (accepted_done true left) ≡ known_effect setup store power run (Event.Return reading)
      unfolding known_effect retained_in both here_in brought_back
      returned h {left} is =
          returned-effect setup store run reading left
          (is (alarms_in store)
          ∙ rw (there-is, ready.sound.known.settings-are) (ap (λ (back : Run). return_run setup reading back) brought))
          ∙ sym (rw (ready.sound.sound, ready.whole, ready.sound.alarms, off, inside, sym readable-is ∙ h))

-- ---- an event, with the bank's own refusals before all others

-- 11 to 14
pub event-bank : (setup : Setup) (store : List ℕ) (power : Bool) (run : Run) (event : Event) {checked : Checked} {refusal : BankRefusal}
    → numbers_of checked ≡ numbers_of (found_in setup.bank) → checked ≡ Err refusal
    → unchanged power run (Err (AnyRefusal.Bank refusal)) ≡ event_effect setup store power run event
unfolding event_effect
event-bank setup store power run event found h = sym (rw (sym (numbers-tell _ _ found) ∙ h))

module _ (setup : Setup) (power : Bool) (run : Run) {settings : Settings} {here : Here} {is_sound : Bool} (ok : found_in setup.bank ≡ Accepted)
    (known : Known setup.bank run.position settings here) (sound-is : is_sound ≡ sound_by setup.config settings here run) where
  sound-in : is_sound ≡ sound_in setup run
  sound-in = sound-is ∙ rw (said_in setup run.position known, known.settings-are)

  module _ (store : List ℕ) (event : Event) where
    -- 21
    pub event-unsound : (power && not is_sound) ≡ true
        → unchanged power run (Err (AnyRefusal.Own Refusal.Unsound)) ≡ event_effect setup store power run event
    unfolding event_effect known_effect
    event-unsound h = sym (rw (ok, unsound setup power run is_sound sound-in h))

    -- 22
    pub event-buffer : (power && not is_sound) ≡ false → sized store ≡ false
        → unchanged power run (Err (AnyRefusal.Own Refusal.Buffer)) ≡ event_effect setup store power run event
    unfolding event_effect known_effect retained_in
    event-buffer h whole = sym (rw (ok, sound-state setup power run is_sound sound-in h, whole))

    -- 41
    pub event-setting : (power && not is_sound) ≡ false → sized store ≡ true → all_in_range setup.config.alarms ≡ false
        → unchanged power run (Err (AnyRefusal.Own Refusal.AlarmSetting)) ≡ event_effect setup store power run event
    unfolding event_effect known_effect retained_in
    event-setting h whole wrong = sym (rw (ok, sound-state setup power run is_sound sound-in h, whole, wrong))

  -- none of these
  pub ready-is : {store : List ℕ} → (power && not is_sound) ≡ false → sized store ≡ true → all_in_range setup.config.alarms ≡ true
      → Ready setup store power run settings here
  ready-is h whole right =
      record { sound = record { known = known; sound = sound-state setup power run is_sound sound-in h; alarms = right }; whole = whole }

-- the event's own refusals, or what it does
pub event-own : (bank : List ℕ) (config : Config) (store : List ℕ) (power : Bool) (run : Run) (event : Event) {settings : Settings} {here : Here}
    {progress : Progress} {done other : Result Done Refusal} → found_in bank ≡ Accepted → Ready (over bank config) store power run settings here
    → progress ≡ progress_of run → DoesOver bank config store settings here power progress event done → done ≡ other
    → effect_if (over bank config) store power run event other ≡ event_effect (over bank config) store power run event
unfolding event_effect
event-own bank config store power run event {settings} {here} {progress} {done} ok ready same does is =
    ap (effect_if (over bank config) store power run event) (sym is)
    ∙ subst (λ (progress : Progress). DoesOver bank config store settings here power progress event done) same does run.alarms ready
    ∙ sym (rw ok)
