-- What a line of `sheet` asks for. A line is its bytes, without the newline that ends it.
-- Assumes nothing.
use Rattle.std.specs.Prelude.{ℕ, ◌+◌, ◌*◌, ◌-◌, Bool, true, cond, List, [], ◌∷◌, eqb, pos, neg_ℤ, length, get_or, drop}
use Rattle.limits.specs.Range.{both, between}
use Rattle.measure.specs.declared.Reading.{Reading}
use Rattle.position.specs.declared.Command.{Command}
use Rattle.plain.specs.declared.Event.{Event}
use Rattle.std.specs.Prelude.{Option}
use Rattle.std.specs.Prelude.{None, Some}
use lib.IntN.{ℤ}

-- ---- "a number, q too, is an optional minus and one to five digits"

unfoldable pub are_digits : List ℕ → Bool
are_digits [] = true
are_digits (c ∷ cs) = both (between 48 c 57) (are_digits cs)

-- the number that digits stand for, after those that came before
unfoldable pub read_on : ℕ → List ℕ → ℕ
read_on before [] = before
read_on before (c ∷ cs) = read_on (10 * before + (c - 48)) cs

-- one to five digits
unfoldable pub unsigned : List ℕ → Option ℤ
unsigned cs = cond (both (between 1 (length cs) 5) (are_digits cs)) (Some (pos (read_on 0 cs))) None

unfoldable pub negated : Option ℤ → Option ℤ
negated None = None
negated (Some v) = Some (neg_ℤ v)

-- 45 is the minus
unfoldable pub number_of : List ℕ → Option ℤ
number_of cs = cond (eqb (get_or cs 0 0) 45) (negated (unsigned (drop 1 cs))) (unsigned cs)

-- ---- keys by themselves: S start, P pause, X reset, F feed, B back, +, -, C cut
unfoldable pub key_of : ℕ → Option Event
key_of c =
    cond (eqb c 83) (Some (Event.Press Command.Start))
    (cond (eqb c 80) (Some (Event.Press Command.Pause))
    (cond (eqb c 88) (Some (Event.Press Command.Reset))
    (cond (eqb c 70) (Some (Event.Press Command.Feed))
    (cond (eqb c 66) (Some (Event.Press Command.Back))
    (cond (eqb c 43) (Some (Event.Press Command.Plus))
    (cond (eqb c 45) (Some (Event.Press Command.Minus))
    (cond (eqb c 67) (Some Event.Cut)
    None)))))))

-- ---- keys with a value: N q, T v, R v

-- "v is H (over), L (under) or a number"
unfoldable pub is_only : ℕ → List ℕ → Bool
is_only c cs = both (eqb (length cs) 1) (eqb (get_or cs 0 0) c)

unfoldable pub value_of : Option ℤ → Option Reading
value_of None = None
value_of (Some v) = Some (Reading.Value v)

unfoldable pub reading_of : List ℕ → Option Reading
reading_of cs = cond (is_only 72 cs) (Some Reading.Over) (cond (is_only 76 cs) (Some Reading.Under) (value_of (number_of cs)))

unfoldable pub select : Option ℤ → Option Event
select None = None
select (Some q) = Some (Event.Press (Command.Select q))

unfoldable pub tick : Option ℤ → Option Event
tick None = None
tick (Some v) = Some (Event.Tick (Reading.Value v))

unfoldable pub return : Option ℤ → Option Event
return None = None
return (Some v) = Some (Event.Return (Reading.Value v))

unfoldable pub tick_of : List ℕ → Option Event
tick_of cs =
    cond (is_only 72 cs) (Some (Event.Tick Reading.Over))
    (cond (is_only 76 cs) (Some (Event.Tick Reading.Under)) (tick (number_of cs)))

unfoldable pub return_of : List ℕ → Option Event
return_of cs =
    cond (is_only 72 cs) (Some (Event.Return Reading.Over))
    (cond (is_only 76 cs) (Some (Event.Return Reading.Under)) (return (number_of cs)))

unfoldable pub valued : ℕ → List ℕ → Option Event
valued c cs =
    cond (eqb c 78) (select (number_of cs))
    (cond (eqb c 84) (tick_of cs)
    (cond (eqb c 82) (return_of cs)
    None))

-- a key by itself, or a key, one space (32) and a value; a line of any other form asks for nothing
unfoldable pub asked_by : List ℕ → Option Event
asked_by cs =
    cond (eqb (length cs) 1) (key_of (get_or cs 0 0))
    (cond (eqb (get_or cs 1 0) 32) (valued (get_or cs 0 0) (drop 2 cs)) None)
