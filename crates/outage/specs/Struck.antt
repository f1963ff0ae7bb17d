-- What a return strikes out, and the events in it, each at the state that the replay machine has before it.
-- Assumes nothing.
use Rattle.std.specs.Prelude.{◌≡◌, Bool, true, false, cond, [], ◌∷◌, ◌++◌, ℕ, ◌+◌, ◌<◌}
use Rattle.outage.specs.Outage.{Events, RemainingOf, back, Kept, plain, back_on, back-off, Remaining, none, ◌▹◌, Machine}
use Rattle.outage.specs.Outage.{replay, saves1, strike, remaining_of}
use Rattle.outage.specs.Credit.{one}

-- one part of what remains after another
unfoldable pub ◌⧺◌ : {E Q : Type 0} → Remaining E Q → Remaining E Q → Remaining E Q
◌⧺◌ past none = past
◌⧺◌ past (later ▹ event) = (past ⧺ later) ▹ event

infixl 20 ◌⧺◌
-- an accepted return in a list: power is off before it, and it is accepted
pub record Return (M : Machine) (events : Events M) : Type 0 where
  pub before : Events M
  pub given : M.Q
  pub after : Events M
  pub split : events ≡ before ++ (back given ∷ after)
  pub was-off : (remaining_of M before).is-on ≡ false
  pub accepted : M.accepts given ≡ true

module _ (M : Machine) where
  -- the events after the last one that saves; all, if none does
  unfoldable pub struck : RemainingOf M → RemainingOf M
  struck none = none
  struck (past ▹ event) = cond (saves1 M (replay M past).0 event) none (struck past ▹ event)

  -- each event of the later part meets P at the state before it
  abbrev pub Each : (P : M.S → Kept M.E M.Q → Type 0) (past later : RemainingOf M) → Type 0
  Each P past none = Unit {0}
  Each P past (later ▹ event) = Each P past later × P (replay M (past ⧺ later)).0 event

  -- how many events of the later part a test counts at the state before them; a return is not counted
  unfoldable pub number : (test : M.S → M.E → Bool) (past later : RemainingOf M) → ℕ
  number test past none = 0
  number test past (later ▹ plain event) = number test past later + one (test (replay M (past ⧺ later)).0 event)
  number test past (later ▹ back_on given) = number test past later
  number test past (later ▹ back-off given) = number test past later

  module _ {events : Events M} (return : Return M events) where
    -- what remains before an accepted return, what of that stays, and what is struck out
    abbrev pub remaining-before : RemainingOf M
    remaining-before = (remaining_of M return.before).remaining

    abbrev pub stays : RemainingOf M
    stays = strike M remaining-before

    abbrev pub gone : RemainingOf M
    gone = struck remaining-before

    -- what the return costs, for a test of events, a counter of states and a bound
    pub record Cost (test : M.S → M.E → Bool) (counter : M.S → ℕ) (bound : ℕ) : Type 0 where
      -- what remained is what stays, then what is struck out; what remains with the return is what stays, then the return
      pub was : remaining-before ≡ stays ⧺ gone
      pub is : (remaining_of M (return.before ++ (back return.given ∷ []))).remaining ≡ stays ▹ back-off return.given
      -- no event struck out saves
      pub unsaved : Each (λ state event. saves1 M state event ≡ false) stays gone
      -- the counted events struck out are as many as the counter of the state at the cut, and fewer than the bound
      pub counted : number test stays gone ≡ counter (replay M remaining-before).0
      pub few : number test stays gone < bound
