-- `host::cook_write` meets its contract. Assumes nothing.
use mathlib.Core.Path.{ap, ◌∙◌}
use Rattle.arrays.specs.Write.{After as Wrote}
use Rattle.calls.specs.Result.{packed}
use Rattle.calls.specs.Calls.{AfterWrite, write_leaves}
use Rattle.host.proofs.cook_write.Goals as goal

-- what writing leaves, of what the writer leaves
after_write : Wrote → AfterWrite
after_write wrote = record { result = packed wrote.numbers; bytes = wrote.bytes }

pub returns-then-not-is_writable : goal.returns-then-not-is_writable
unfolding write_leaves
returns-then-not-is_writable c = rw (← c.is_writable.ensures, c.if-not-is_writable.true)

pub returns : goal.returns
unfolding write_leaves after_write
returns c =
    rw (← c.is_writable.ensures, c.if-not-is_writable.false, c.of_written.ensures)
    (ap after_write (c.write.ensures.out_after ∙ rw (c.read_settings-given.ensures, c.patterns_from-patterns.ensures)))
