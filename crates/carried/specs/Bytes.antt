-- The bytes of a state's parts, as the code writes them, and what carrying out an effect leaves.
-- Assumes nothing.
use Rattle.std.specs.Prelude.{ℕ, List, [], ◌∷◌, drop}
use Rattle.field.specs.Row.{row}
use Rattle.position.specs.declared.Position.{Position}
use Rattle.alarm.specs.declared.Alarms.{Alarms}
use Rattle.plain.specs.declared.Run.{Run}
use Rattle.plain.specs.declared.Credit.{Credit}
use Rattle.plain.specs.declared.Effect.{Effect}
use Rattle.plain.specs.Record.{record_of, credits_in}
use Rattle.plain.specs.Run.{credited}
use Rattle.plain.specs.Event.{After, applied}
use Rattle.calls.specs.Carried.{AfterCarried, after_carried, kind_of, bits_of, state_bytes}

-- u, the measured kind, the bits of y
abbrev pub rest_bytes : Run → List ℕ
rest_bytes run = row (1 ∷ 1 ∷ 8 ∷ []) (run.unsaved ∷ kind_of run.measured ∷ bits_of run.measured ∷ [])

-- the record's part: a position, what becomes of the credits that stand there, and the alarms
abbrev pub retained_bytes : Position → Credit → Alarms → List ℕ → List ℕ → List ℕ
retained_bytes position credit alarms store bytes =
    record_of (record { position = position; credits = credited credit (credits_in store) (credits_in (drop 1 bytes)); alarms = alarms })

-- what an effect leaves of a record, and of the state that bytes are
abbrev pub carried_by : List ℕ → List ℕ → Effect → AfterCarried
carried_by store bytes effect =
    let left : After = applied store (credits_in (drop 1 bytes)) effect in
    after_carried left.answer left.store (state_bytes left.state)
