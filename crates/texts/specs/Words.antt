-- Words that are compared.
use Rattle.std.specs.Prelude.{ℕ, Bool, List}
use Rattle.std.specs.Str.{bytes_eq}

abbrev pub same : List ℕ → List ℕ → Bool
same = bytes_eq
