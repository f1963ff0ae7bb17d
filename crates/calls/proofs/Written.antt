-- What the writes of a state's parts leave, and what an event leaves of a state that is carried as bytes.
-- Assumes nothing.
use Prim.Native.Nat.{ℕ, ◌+◌, ◌*◌, ◌-◌, ◌%◌, ◌≤◌, ◌<◌, min}
use mathlib.Core.Path.{◌≡◌, refl, sym, ap, ◌∙◌}
use mathlib.Core.Bool.{Bool, true, false, cond, false≢true}
use mathlib.Core.List.{List, [], ◌∷◌, ◌++◌, append_assoc, append-nil}
use native.Mathlib.Omega.{arith}
use borrow.Rule.Slice.PartMut.{put_mid}
use borrow.Author.Tests.{eqb-true}
use lib.ListN.{length, take, drop, get_or, set, length-set, length-replicate}
use lib.Seq.{sets, sets-eq, length-sets, drop-drop, take_at, set_out, drop-set-lt}
use Rattle.field.specs.Field.{field, digits}
use Rattle.field.specs.Row.{row, row_at, total}
use Rattle.field.proofs.Laws.{Bytes}
use Rattle.field.proofs.Rows.{length-row, row-append, length-row_at, sets-all}
use Rattle.setting.specs.Found.{Checked, Accepted}
use Rattle.setting.specs.declared.BankRefusal.{BankRefusal}
use Rattle.bank.specs.Check.{found_in}
use Rattle.position.specs.declared.Position.{Position}
use Rattle.position.proofs.Tests.{both_left}
use Rattle.alarm.specs.declared.Alarms.{Alarms}
use Rattle.alarm.specs.Part.{alarm_widths, alarm_numbers}
use Rattle.plain.specs.declared.Run.{Run}
use Rattle.plain.specs.declared.Credit.{Credit}
use Rattle.plain.specs.declared.Event.{Event}
use Rattle.plain.specs.declared.Refusal.{Refusal}
use Rattle.plain.specs.declared.Effect.{Effect}
use Rattle.plain.specs.Record.{Checkpoint, widths_of, numbers_in, position_widths, position_numbers, credit_widths, parts, record_size, alarms_from, record_of, credits_in}
use Rattle.plain.specs.Setup.{Setup}
use Rattle.plain.specs.Run.{cooked, credited}
use Rattle.plain.specs.Answer.{is_accepted, Answer}
use Rattle.plain.specs.Refusals.{Row, event_rows}
use Rattle.plain.specs.Event.{State, After, applied, unchanged, refused, cut_effect, accepted_effect, retained_in, known_effect, event_effect, event_outcome, make_outcome}
use Rattle.plain.proofs.Judged.{Met, judged-cases}
use Rattle.plain.proofs.Effects.{by-event}
use Rattle.plain.proofs.Record.{Paired, length-parts, put-parts}
use Rattle.calls.specs.Carried.{checkpoint_of, rest_part, state_parts, state_size, rest_from, state_bytes, state_in, is_state}
use Rattle.calls.specs.Carried.{kind_of, bits_of, AfterCarried, after_carried, carried_out, roomy, make_carried, event_carried}
use Rattle.calls.proofs.Place.{rows_stay, rows-after, number_at, number-set}
use Rattle.calls.proofs.Round.{rows-from, kind-below}
use Rattle.std.specs.Prelude.{Ok, Err}
use Rattle.plain.specs.declared.AnyRefusal.{AnyRefusal}

-- ---- what is left, carried

abbrev pub carried : After → AfterCarried
carried left = after_carried left.answer left.store (state_bytes left.state)

-- ---- the record's part

-- the bytes of a part, put back, are written in its place
pub part-put : (part bytes : List ℕ) → length bytes ≡ state_size → length part ≡ record_size → put_mid 1 record_size bytes part ≡ sets bytes 1 part
unfolding credit_widths widths_of total
part-put part bytes h size =
    sym
    (sets-eq part bytes 1 (omega arith)
    ∙ ap (λ (end : ℕ). take 1 bytes ++ part ++ drop (1 + end) bytes) size
    ∙ ap (λ (rest : List ℕ). take 1 bytes ++ part ++ rest) (sym (drop-drop record_size 1 bytes))
    ∙ append_assoc (take 1 bytes) part (drop record_size (drop 1 bytes)))

-- the credits that stand there
credits-there : (bytes : List ℕ) → credits_in (drop 1 bytes) ≡ row_at credit_widths bytes 16
unfolding credits_in widths_of total
credits-there bytes = rows-from credit_widths bytes 1 15

-- one of them
pub credit-there : (bytes : List ℕ) (i : ℕ) → i < 99 → get_or (credits_in (drop 1 bytes)) i 0 ≡ field 4 bytes (16 + 4 * i)
unfolding credit_widths
credit-there bytes i h = ap (λ (credits : List ℕ). get_or credits i 0) (credits-there bytes) ∙ number_at 4 99 bytes 16 i h

-- power is none of them
pub credits-behind : (bytes : List ℕ) (x : ℕ) → credits_in (drop 1 (set bytes 0 x)) ≡ credits_in (drop 1 bytes)
credits-behind bytes x = ap credits_in (drop-set-lt 1 bytes 0 x (omega arith))

pub long-credited : (credit : Credit) (store bytes : List ℕ) → length (credited credit (credits_in store) (credits_in bytes)) ≡ 99
unfolding credited credits_in cooked credit_widths
long-credited Credit.Keep store bytes = length-row_at credit_widths bytes _
long-credited (Credit.Cook k) store bytes = length-set (credits_in bytes) (k - 1) _ ∙ length-row_at credit_widths bytes _
long-credited Credit.Clear store bytes = refl
long-credited Credit.Restore store bytes = length-row_at credit_widths store _

module _ (bytes : List ℕ) (small : Bytes bytes) (long : length bytes ≡ state_size) where
  -- credits that stand there, written again
  pub credits-stay : sets bytes 16 (row credit_widths (credits_in (drop 1 bytes))) ≡ bytes
  unfolding credit_widths widths_of total
  credits-stay =
      ap (λ (credits : List ℕ). sets bytes 16 (row credit_widths credits)) (credits-there bytes) ∙ rows_stay [] credit_widths bytes 16 small (omega arith)

  -- and one credit that is written among them
  pub cooks : (k : ℕ) → k - 1 < 99 → (value : ℕ) → value ≡ get_or (credits_in (drop 1 bytes)) (k - 1) 0
      → sets bytes (16 + 4 * (k - 1)) (digits 4 (min (value + 1) 4294967295)) ≡ sets bytes 16 (row credit_widths (cooked (credits_in (drop 1 bytes)) k))
  unfolding cooked credit_widths widths_of total
  cooks k h value is =
      let there = credits-there bytes in
      let old = ap (λ (credits : List ℕ). get_or credits (k - 1) 0) (sym there) ∙ sym is in
      sym
      (ap (λ (credits : List ℕ). sets bytes 16 (row credit_widths (cooked credits k))) there
      ∙ ap (λ (x : ℕ). sets bytes 16 (row credit_widths (set (row_at credit_widths bytes 16) (k - 1) (min (x + 1) 4294967295)))) old
      ∙ number-set 4 99 bytes 16 (k - 1) (min (value + 1) 4294967295) small (omega arith) h)

  -- no step has that place
  pub cooks-none : (k : ℕ) → 99 ≤ k - 1 → bytes ≡ sets bytes 16 (row credit_widths (cooked (credits_in (drop 1 bytes)) k))
  unfolding cooked credits_in credit_widths widths_of total
  cooks-none k h =
      let many = length-row_at credit_widths (drop 1 bytes) 15 in
      sym
      (ap (λ (credits : List ℕ). sets bytes 16 (row credit_widths credits))
      (set_out (credits_in (drop 1 bytes)) (k - 1) _ (omega (arith, many)) ∙ credits-there bytes)
      ∙ rows_stay [] credit_widths bytes 16 small (omega arith))

-- a position, then the credits, then the alarms, is the record
module _ (bytes : List ℕ) (position : Position) (alarms : Alarms) (long : length bytes ≡ state_size) where
  abbrev placed : List ℕ
  placed = sets bytes 1 (row position_widths (position_numbers position))

  -- writing the position leaves the credits
  pub credits-kept : credits_in (drop 1 placed) ≡ credits_in (drop 1 bytes)
  unfolding credit_widths widths_of total
  credits-kept =
      let front = row position_widths (position_numbers position) in
      let size : length front ≡ 15 = length-row position_widths (position_numbers position) refl in
      credits-there placed ∙ rows-after credit_widths front bytes 1 16 (omega arith) ∙ sym (credits-there bytes)

  retained-put : (credits : List ℕ) → length credits ≡ 99
      → sets (sets placed 16 (row credit_widths credits)) (1 + alarms_from) (row alarm_widths (alarm_numbers alarms))
      ≡ sets bytes 1 (record_of (record { position = position; credits = credits; alarms = alarms }))
  unfolding record_of credit_widths widths_of total
  retained-put credits many =
      put-parts (record { position = position; credits = credits; alarms = alarms }) parts bytes 1 (refl, (length-replicate {A = ℕ} 99 4 ∙ sym many, (refl, tt)))

  -- where the credits stay, and where one of them gains 1
  module _ (left : List ℕ) (is : left ≡ placed) where
    same-credits : credits_in (drop 1 left) ≡ credits_in (drop 1 bytes)
    same-credits = ap (λ (x : List ℕ). credits_in (drop 1 x)) is ∙ credits-kept

    pub keep-put : Bytes left
        → sets left (1 + alarms_from) (row alarm_widths (alarm_numbers alarms))
        ≡ sets bytes 1 (record_of (record { position = position; credits = credits_in (drop 1 bytes); alarms = alarms }))
    unfolding credited
    keep-put small =
        let stay = credits-stay left small (ap length is ∙ length-sets bytes 1 (row position_widths (position_numbers position)) ∙ long) in
        ap (λ (x : List ℕ). sets x (1 + alarms_from) (row alarm_widths (alarm_numbers alarms)))
        (sym stay ∙ (λ i. sets (is i) 16 (row credit_widths (same-credits i))))
        ∙ retained-put (credits_in (drop 1 bytes)) (long-credited Credit.Keep bytes (drop 1 bytes))

    pub cook-put : (k : ℕ) (cooking : List ℕ) → cooking ≡ sets left 16 (row credit_widths (cooked (credits_in (drop 1 left)) k))
        → sets cooking (1 + alarms_from) (row alarm_widths (alarm_numbers alarms))
        ≡ sets bytes 1 (record_of (record { position = position; credits = cooked (credits_in (drop 1 bytes)) k; alarms = alarms }))
    unfolding credited
    cook-put k cooking put =
        ap (λ (x : List ℕ). sets x (1 + alarms_from) (row alarm_widths (alarm_numbers alarms)))
        (put ∙ (λ i. sets (is i) 16 (row credit_widths (cooked (same-credits i) k))))
        ∙ retained-put (cooked (credits_in (drop 1 bytes)) k) (long-credited (Credit.Cook k) bytes (drop 1 bytes))

-- ---- the whole state

-- a number of one byte
one-digit : (x : ℕ) → x < 256 → x ∷ [] ≡ digits 1 x
unfolding digits
one-digit x h = let same : x ≡ x % 256 = omega arith in ap (λ (y : ℕ). y ∷ []) same

-- power as a number of one byte
power-byte : (power : Bool) (bytes : List ℕ) → set bytes 0 (cond power 1 0) ≡ sets bytes 0 (row (1 ∷ []) (cond power 1 0 ∷ []))
unfolding row digits
power-byte true bytes = refl
power-byte false bytes = refl

-- u, the measured kind and y as a row
pub rest-row : (run : Run) → run.unsaved < 256
    → run.unsaved ∷ kind_of run.measured ∷ digits 8 (bits_of run.measured) ≡ row (1 ∷ 1 ∷ 8 ∷ []) (run.unsaved ∷ kind_of run.measured ∷ bits_of run.measured ∷ [])
unfolding row
rest-row run small =
    let bits = digits 8 (bits_of run.measured) in
    λ i. one-digit run.unsaved small i ++ (one-digit (kind_of run.measured) (kind-below run.measured) i ++ sym (append-nil bits) i)

module _ (state : State) (many : length state.credits ≡ 99) where
  abbrev retained : Checkpoint
  retained = checkpoint_of state

  paired : Paired retained parts
  unfolding credit_widths
  paired = (refl, (length-replicate {A = ℕ} 99 4 ∙ sym many, (refl, tt)))

  all-paired : Paired state state_parts
  all-paired = (refl, (refl, (paired.1.0, (refl, (refl, tt)))))

  -- power, the record and the rest, written one behind the other
  pub written : (bytes : List ℕ) → length bytes ≡ state_size
      → sets (sets (set bytes 0 (cond state.power 1 0)) 1 (record_of retained)) rest_from (row rest_part.widths (rest_part.numbers state))
      ≡ state_bytes state
  unfolding state_bytes record_of widths_of total credit_widths
  written bytes long =
      let front = sets bytes 0 (row (1 ∷ []) (cond state.power 1 0 ∷ [])) in
      let rest = row rest_part.widths (rest_part.numbers state) in
      let size = length-row (widths_of state_parts) (numbers_in state_parts state) (length-parts state state_parts all-paired) in
      ap (λ (x : List ℕ). sets (sets x 1 (record_of retained)) rest_from rest) (power-byte state.power bytes)
      ∙ ap (λ (x : List ℕ). sets x rest_from rest) (sym (put-parts retained parts front 1 paired))
      ∙ put-parts state state_parts bytes 0 all-paired
      ∙ sets-all (state_bytes state) bytes (long ∙ sym size)

  -- the record is a part of a state's bytes
  pub record-part : take record_size (drop 1 (state_bytes state)) ≡ record_of retained
  unfolding state_bytes record_of widths_of numbers_in row digits
  record-part =
      let rest = row rest_part.widths (rest_part.numbers state) in
      let own : length (widths_of parts) ≡ length (numbers_in parts retained) = length-parts retained parts paired in
      let behind : drop 1 (state_bytes state) ≡ row (widths_of parts ++ rest_part.widths) (numbers_in parts retained ++ rest_part.numbers state) =
      λ i. row (position_widths ++ sym (append_assoc credit_widths alarm_widths rest_part.widths) i)
      (position_numbers state.run.position ++ sym (append_assoc state.credits (alarm_numbers state.run.alarms) (rest_part.numbers state)) i) in
      ap (take record_size) (behind ∙ sym (row-append (widths_of parts) (numbers_in parts retained) rest_part.widths (rest_part.numbers state) own))
      ∙ take_at (record_of retained) rest record_size (length-row (widths_of parts) (numbers_in parts retained) own)

-- ---- answers

abbrev pub is_bank : Answer → Bool
is_bank (Ok shown) = false
is_bank (Err (AnyRefusal.Bank found)) = true
is_bank (Err (AnyRefusal.Own refusal)) = false

-- ---- making

module _ (setup : Setup) (store bytes : List ℕ) where
  -- the bank's refusals come first
  pub make-bank-first : {refusal : BankRefusal} → found_in setup.bank ≡ Err refusal → after_carried (Err (AnyRefusal.Bank refusal)) store bytes ≡ make_carried setup store bytes
  unfolding make_carried
  make-bank-first denied = sym (rw denied)

  -- then 21 for a buffer without room
  pub make-no-room : found_in setup.bank ≡ Accepted → roomy bytes ≡ false
      → after_carried (Err (AnyRefusal.Own Refusal.Unsound)) store bytes ≡ make_carried setup store bytes
  unfolding make_carried
  make-no-room ok small = sym (rw (ok, small))

  -- with room it leaves what making leaves
  pub make-left : roomy bytes ≡ true → carried_out bytes (make_outcome setup store) ≡ make_carried setup store bytes
  unfolding make_carried make_outcome carried_out is_accepted
  make-left room = go (found_in setup.bank) refl
    where
      go : (found : Checked) → found_in setup.bank ≡ found → carried_out bytes (make_outcome setup store) ≡ make_carried setup store bytes
      go (Ok done) ok = sym (rw (ok, room))
      go (Err refusal) denied = rw denied

-- ---- an event

refused-saves : (setup : Setup) (store : List ℕ) (power : Bool) (run : Run) (event : Event)
    → is_accepted (event_effect setup store power run event).answer ≡ false → (event_effect setup store power run event).saves ≡ false
unfolding is_accepted cut_effect
refused-saves setup store power run event =
    by-event setup store power run event (λ (effect : Effect). is_accepted effect.answer ≡ false → effect.saves ≡ false)
    (λ _ _. refl) (λ _ h. absurd (false≢true (sym h ∙ accepts event)))
  where
    accepts : (event : Event) → is_accepted (accepted_effect setup store run event).answer ≡ true
    accepts (Event.Tick reading) = refl
    accepts (Event.Press command) = refl
    accepts Event.Cut = refl
    accepts (Event.Return reading) = refl

-- over an accepted bank no event is answered with a refusal of the bank
pub known-answers : (setup : Setup) (store : List ℕ) (power : Bool) (run : Run) (event : Event) → found_in setup.bank ≡ Accepted
    → is_bank (event_effect setup store power run event).answer ≡ false
unfolding event_effect known_effect cut_effect
known-answers setup store power run event ok =
    let rows = event_rows setup (retained_in setup store) power run event in
    rw ok (judged-cases Other (refused power run) (accepted_effect setup store run event) rows (met rows) (λ _. takes event))
  where
    Other : Effect → Type 0
    Other x = is_bank x.answer ≡ false

    met : (rows : List Row) → Met Other (refused power run) (accepted_effect setup store run event) rows
    met [] = tt
    met (row ∷ rows) = (λ _. refl, met rows)

    takes : (event : Event) → Other (accepted_effect setup store run event)
    takes (Event.Tick reading) = refl
    takes (Event.Press command) = refl
    takes Event.Cut = refl
    takes (Event.Return reading) = refl

-- bytes that are a state have its size
pub state-long : (bytes : List ℕ) → is_state bytes ≡ true → length bytes ≡ state_size
unfolding is_state roomy
state-long bytes h = eqb-true (length bytes) state_size (both_left _ _ h)

-- what an event does, of the state that bytes are
abbrev pub effect_on : Setup → List ℕ → List ℕ → Event → Effect
effect_on setup store bytes event = event_effect setup store (state_in bytes).power (state_in bytes).run event

module _ (setup : Setup) (store bytes : List ℕ) (event : Event) where
  abbrev power : Bool
  power = (state_in bytes).power

  abbrev run : Run
  run = (state_in bytes).run

  abbrev effect : Effect
  effect = effect_on setup store bytes event

  abbrev left : AfterCarried
  left = event_carried setup store bytes event

  -- over a bank that is refused
  refused-effect : {refusal : BankRefusal} → found_in setup.bank ≡ Err refusal → effect ≡ unchanged power run (Err (AnyRefusal.Bank refusal))
  unfolding event_effect
  refused-effect denied = rw denied

  refused-left : {refusal : BankRefusal} → found_in setup.bank ≡ Err refusal → left ≡ after_carried (Err (AnyRefusal.Bank refusal)) store bytes
  unfolding event_carried
  refused-left denied = rw denied

  -- and over one that is accepted
  known-effect : found_in setup.bank ≡ Accepted → is_bank effect.answer ≡ false
  known-effect = known-answers setup store power run event

  known-left : found_in setup.bank ≡ Accepted
      → left ≡ cond (is_state bytes) (carried_out bytes (event_outcome setup store (state_in bytes) event)) (after_carried (Err (AnyRefusal.Own Refusal.Unsound)) store bytes)
  unfolding event_carried
  known-left ok = rw ok

  -- the bank's refusals come first
  pub bank-first : is_bank effect.answer ≡ true → after_carried effect.answer store bytes ≡ left
  bank-first h = go (found_in setup.bank) refl
    where
      go : (found : Checked) → found_in setup.bank ≡ found → after_carried effect.answer store bytes ≡ left
      go (Ok done) ok = absurd (false≢true (sym (known-effect ok) ∙ h))
      go (Err refusal) denied = ap (λ (x : Effect). after_carried x.answer store bytes) (refused-effect denied) ∙ sym (refused-left denied)

  module _ (other : is_bank effect.answer ≡ false) where
    passed : found_in setup.bank ≡ Accepted
    passed = go (found_in setup.bank) refl
      where
        go : (found : Checked) → found_in setup.bank ≡ found → found ≡ Accepted
        go (Ok done) ok = refl
        go (Err refusal) denied = absurd (false≢true (sym other ∙ ap (λ (x : Effect). is_bank x.answer) (refused-effect denied)))

    -- then 21 for bytes that are no state
    pub no-state : is_state bytes ≡ false → after_carried (Err (AnyRefusal.Own Refusal.Unsound)) store bytes ≡ left
    no-state denied = sym (known-left passed ∙ rw denied)

    -- a refusal leaves record and bytes
    pub refused-event : is_state bytes ≡ true → is_accepted effect.answer ≡ false → after_carried effect.answer store bytes ≡ left
    unfolding carried_out event_outcome
    refused-event ok h = sym (known-left passed ∙ rw (ok, h, refused-saves setup store power run event h))

    -- and an accepted event does what it does
    pub accepted-event : is_state bytes ≡ true → is_accepted effect.answer ≡ true
        → carried (applied store (credits_in (drop 1 bytes)) effect) ≡ left
    unfolding carried_out event_outcome state_in
    accepted-event ok h = sym (known-left passed ∙ rw (ok, h))
