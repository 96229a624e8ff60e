-- How many cycles there are up to and with the last one.
use Rattle.std.specs.Prelude.{ℕ, ◌+◌, Some, None, Option}

abbrev pub cycles_to : Option ℕ → ℕ
cycles_to None = 0
cycles_to (Some c) = c + 1
