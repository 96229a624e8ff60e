-- What a pack means, in words.
use Rattle.std.specs.Prelude.{ℕ, List, ◌++◌, codes}
use Rattle.std.specs.Fmt.{signed_decimal}
use Rattle.kinds.specs.Bits.{number}
use Rattle.pack.specs.declared.unit.PackUnit.{PackUnit}

abbrev pub text : PackUnit → List ℕ
text u =
    codes "pack of " ++ (signed_decimal (number u.first) ++ (codes ", " ++ (signed_decimal (number u.second) ++ (codes ", " ++ (signed_decimal (number u.third) ++ (codes ", " ++ signed_decimal (number u.fourth)))))))
