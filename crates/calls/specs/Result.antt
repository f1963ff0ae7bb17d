-- A result as one 64-bit number: bits 0-7 the document's number (0 accepted, 99 for a call of no known form), 8-23 its first value, 24-31 its
-- second, 32-47 the set value as 16 bits, 48-51 the four signals.
-- Assumes nothing.
use Rattle.std.specs.Prelude.{ℕ, ◌+◌, ◌*◌, cond, List, get_or, Ok, Err}
use Rattle.std.specs.Int.{w16}
use Rattle.std.proofs.Common.{of_z}
use Rattle.setting.specs.Found.{numbers_of as bank_numbers}
use Rattle.position.specs.declared.Signals.{Signals}
use Rattle.plain.specs.Answer.{number_of, Answer}
use Rattle.plain.specs.declared.AnyRefusal.{AnyRefusal}

-- a number and its values: 256 is bit 8, 16,777,216 is bit 24
unfoldable pub packed : List ℕ → ℕ
packed ns = get_or ns 0 0 + 256 * get_or ns 1 0 + 16777216 * get_or ns 2 0

-- the four signals as four bits
unfoldable pub signal_bits : Signals → ℕ
signal_bits signals = cond signals.first 1 0 + cond signals.second 2 0 + cond signals.third 4 0 + cond signals.fourth 8 0

-- an accepted answer has the number 0, and carries what it shows above bit 31: 4,294,967,296 is bit 32, 281,474,976,710,656 is bit 48
unfoldable pub result_of : Answer → ℕ
result_of (Ok shown) = 4294967296 * of_z w16 shown.value + 281474976710656 * signal_bits shown.signals
result_of (Err (AnyRefusal.Bank refusal)) = packed (bank_numbers (Err refusal))
result_of (Err (AnyRefusal.Own refusal)) = number_of refusal
