-- A loop over a list of events: what stands after some of them, and that the rest of the list gives what the whole list gives.
-- Assumes nothing.
use mathlib.Core.Path.{◌≡◌, refl, sym, ap, ◌∙◌, subst}
use mathlib.Core.Bool.{Bool, true, cond}
use mathlib.Core.List.{List, [], ◌∷◌}
use Prim.Native.Nat.{ℕ, suc, ◌+◌, ◌*◌}
use native.Mathlib.Omega.{arith}
use Rattle.field.specs.Tab.{tab}
use Rattle.setting.specs.declared.Settings.{Settings}
use Rattle.position.specs.declared.Here.{Here}
use Rattle.position.specs.Program.{said_at}
use Rattle.alarm.specs.declared.Alarms.{Alarms}
use Rattle.alarm.specs.Idle.{all_idle}
use Rattle.plain.specs.declared.Event.{Event}
use Rattle.plain.specs.declared.Effect.{Effect}
use Rattle.plain.specs.declared.Refusal.{Refusal}
use Rattle.plain.specs.declared.AnyRefusal.{AnyRefusal}
use Rattle.plain.specs.declared.Run.{Run}
use Rattle.plain.specs.Record.{credits_in}
use Rattle.plain.specs.Setup.{Setup, here_in}
use Rattle.plain.specs.Answer.{is_accepted}
use Rattle.plain.specs.Run.{shown_in, credited}
use Rattle.plain.specs.Event.{State, After, after, refused, record_for, applied, known_effect, event_outcome, make_outcome, events_from}
use Rattle.plain.specs.Listed.{asked_events}
use Rattle.plain.proofs.Standing.{view, Stands, stands-known, stands-next, stands-sized, stands-sound, stands-made, made, made-begins}
use Rattle.making.specs.declared.Ran.{Ran}
use Rattle.making.specs.Ran.{after_ran}
use Rattle.effect.specs.declared.Progress.{Progress}
use Rattle.effect.specs.declared.Done.{Done}
use Rattle.effect.specs.declared.Moved.{Moved}
use Rattle.effect.specs.Known.{Known, Ready, Within, Made}
use Rattle.effect.specs.Done.{with_alarms, answer_in, credit_by, alarms_by, effect_of, DoesTo}
use Rattle.effect.specs.Ran.{state_from}
use Rattle.effect.proofs.Laws.{said_in}
use Rattle.std.specs.Prelude.{Option, None, Some, Result, Ok, Err}

-- ---- one event

module _ (setup : Setup) (state : State) (store : List ℕ) (stands : Stands setup state store) (event : Event) (effect : Effect)
    (is : effect ≡ known_effect setup store state.power state.run event) where
  -- what its effect leaves, once the credits and the record are those that it leaves
  pub one-event : (credits written : List ℕ) → credits ≡ credited effect.credit (credits_in store) state.credits
      → written ≡ cond effect.saves (record_for effect.run credits) store
      → after (record { power = effect.power; run = effect.run; credits = credits }) written effect.answer ≡ event_outcome setup store state event
  one-event credits written h g =
      (λ i. after (record { power = effect.power; run = effect.run; credits = h i })
      ((g ∙ ap (λ (x : List ℕ). cond effect.saves (record_for effect.run x) store) h) i) effect.answer)
      ∙ ap (applied store state.credits) is
      ∙ sym (stands-known setup stands.ok state store stands.standing event)

-- of a list: what is known within it makes the state one that an event can be done on
module _ (setup : Setup) (moved : Moved) (credits store : List ℕ) {settings : Settings} {here : Here}
    (within : Within setup settings here moved.idle (state_from moved credits) store) where
  abbrev run : Run
  run = with_alarms moved.progress moved.alarms

  pub within-ready : Ready setup store moved.power run settings here
  within-ready =
      let stands = within.stands in
      record {
        sound = record { known = within.known; sound = stands-sound _ stands.ok _ _ stands.standing; alarms = stands.ok.alarms };
        whole = stands-sized _ stands.ok _ _ stands.standing;
      }

  module _ (event : Event) where
    -- a refusal leaves all
    pub turn-refused : {done : Result Done Refusal} {refusal : Refusal} → done ≡ Err refusal
        → DoesTo setup store moved.power moved.progress event done moved.alarms
        → after (state_from moved credits) store (Err (AnyRefusal.Own refusal)) ≡ event_outcome setup store (state_from moved credits) event
    unfolding credited
    turn-refused {done} {refusal} is does =
        let same : DoesTo setup store moved.power moved.progress event (Err refusal) moved.alarms =
        subst (λ (done : Result Done Refusal). DoesTo setup store moved.power moved.progress event done moved.alarms) is does in
        one-event setup (state_from moved credits) store within.stands event (refused moved.power run refusal) same credits store refl refl

    -- what is left beside the alarms, and the alarms that become of it
    module _ (outcome : Result Done Refusal) (done : Done) (is : outcome ≡ Ok done) (left : Progress) (same : left ≡ done.progress)
        (does : DoesTo setup store moved.power moved.progress event outcome moved.alarms) where
      abbrev to : Progress → Done
      to progress = record { power = done.power; progress = progress; saves = done.saves }

      pub turn-done : (there : Here) → there ≡ said_at setup.bank settings left.position → (alarms : Alarms)
          → alarms ≡ alarms_by setup.config there store event moved.alarms left.position left.measured
          → (counted written : List ℕ) → counted ≡ credited (credit_by event moved.progress.position) (credits_in store) credits
          → written ≡ cond done.saves (record_for (with_alarms left alarms) counted) store
          → after (record { power = done.power; run = with_alarms left alarms; credits = counted }) written (answer_in setup left.position (Ok tt))
          ≡ event_outcome setup store (state_from moved credits) event
      turn-done there said alarms h counted written gains stored =
          let there-is : there ≡ here_in setup left.position =
          said_in setup left.position (record { settings-are = within.known.settings-are; here-is = said }) in
          let judged : alarms ≡ alarms_by setup.config (here_in setup left.position) store event moved.alarms left.position left.measured =
          h ∙ ap (λ (there : Here). alarms_by setup.config there store event moved.alarms left.position left.measured) there-is in
          let does : DoesTo setup store moved.power moved.progress event (Ok (to left)) moved.alarms =
          subst (λ (progress : Progress). DoesTo setup store moved.power moved.progress event (Ok (to progress)) moved.alarms) (sym same)
          (subst (λ (outcome : Result Done Refusal). DoesTo setup store moved.power moved.progress event outcome moved.alarms) is does) in
          (λ i. after (record { power = done.power; run = with_alarms left (judged i); credits = counted }) written (answer_in setup left.position (Ok tt)))
          ∙ one-event setup (state_from moved credits) store within.stands event (effect_of setup store run event (to left)) does counted written gains
          (stored ∙ ap (λ (alarms : Alarms). cond done.saves (record_for (with_alarms left alarms) counted) store) judged)

-- ---- what is asked for, one after the other

module _ (setup : Setup) where
  -- the first, then the rest
  first_then : (now : After) (asked : Option Event) (rest : List (Option Event))
      → events_from setup now (asked_events (asked ∷ rest)) ≡ events_from setup (events_from setup now (asked_events (asked ∷ []))) (asked_events rest)
  unfolding events_from
  first_then now None rest = refl
  first_then now (Some event) rest = refl

  stands-turn : (now : After) (asked : Option Event) → Stands setup now.state now.store
      → let next = events_from setup now (asked_events (asked ∷ [])) in Stands setup next.state next.store
  unfolding events_from
  stands-turn now None stands = stands
  stands-turn now (Some event) stands =
      record { ok = stands.ok; standing = stands-next setup stands.ok now.state now.store stands.standing event }

-- ---- the loop

-- after i of n events
pub record Walked (setup : Setup) (f : ℕ → Option Event) (settings : Settings) (here : Here) (idle : Bool) (whole now : After) (i n : ℕ) : Type 0 where
  pub known : Known setup.bank now.state.run.position settings here
  pub idle-is : idle ≡ all_idle setup.config.alarms now.state.run.alarms
  pub stands : Stands setup now.state now.store
  pub gives : (more : ℕ) → more + i ≡ n → events_from setup now (asked_events (tab f 5 (5 * i) more)) ≡ whole

-- before the first
pub walked-none : (setup : Setup) (f : ℕ → Option Event) (settings : Settings) (here : Here) (idle : Bool) (begun : After) (n : ℕ)
    → Known setup.bank begun.state.run.position settings here → idle ≡ all_idle setup.config.alarms begun.state.run.alarms
    → Stands setup begun.state begun.store → Walked setup f settings here idle (events_from setup begun (asked_events (tab f 5 0 n))) begun 0 n
walked-none setup f settings here idle begun n known idle-is stands =
    record {
      known = known;
      idle-is = idle-is;
      stands = stands;
      gives = λ more left.
          let all : more ≡ n = omega (arith, left) in
          ap (λ (more : ℕ). events_from setup begun (asked_events (tab f 5 0 more))) all;
    }

module _ (setup : Setup) (f : ℕ → Option Event) (settings : Settings) (here : Here) (idle : Bool) (whole now : After) (i n : ℕ)
    (walked : Walked setup f settings here idle whole now i n) where
  -- one turn
  pub turned : (there : Here) (still : Bool) (next : After) → next ≡ events_from setup now (asked_events (f (5 * i) ∷ []))
      → there ≡ said_at setup.bank settings next.state.run.position → still ≡ all_idle setup.config.alarms next.state.run.alarms
      → Walked setup f settings there still whole next (i + 1) n
  unfolding tab
  turned there still next h here-is idle-is =
      record {
        known = record { settings-are = walked.known.settings-are; here-is = here-is };
        idle-is = idle-is;
        stands = subst (λ (a : After). Stands setup a.state a.store) (sym h) (stands-turn setup now (f (5 * i)) walked.stands);
        gives = λ more left.
            let at : 5 * (i + 1) ≡ 5 * i + 5 = omega arith in
            let rest = tab f 5 (5 * i + 5) more in
            ap (λ (at : ℕ). events_from setup next (asked_events (tab f 5 at more))) at
            ∙ ap (λ (a : After). events_from setup a (asked_events rest)) h ∙ sym (first_then setup now (f (5 * i)) rest)
            ∙ walked.gives (suc more) (omega (arith, left));
      }

  -- the end
  pub walked_all : i ≡ n → now ≡ whole
  unfolding tab events_from
  walked_all same = walked.gives 0 (omega (arith, same))

-- ---- what making gave, where it is accepted

pub made-stands : (setup : Setup) (store : List ℕ) (ran : Ran) (written : List ℕ) → after_ran ran written ≡ make_outcome setup store
    → is_accepted ran.answer ≡ true → Made setup ran written
unfolding view
made-stands setup store ran written is accepted =
    let begins = made-begins setup store (ap (λ (left : After). is_accepted left.answer) (sym is) ∙ accepted) in
    let left = is ∙ made setup begins.0 store begins.1 in
    record {
      stands = subst (λ (left : After). Stands setup left.state left.store) (sym is)
          (record { ok = begins.0; standing = stands-made setup begins.0 store begins.1 });
      answer-is = ap (λ (x : After). x.answer) left ∙ ap (λ (x : After). Ok (shown_in setup x.state.run)) (sym left);
    }
