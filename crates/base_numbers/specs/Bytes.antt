-- Lists of bytes.
use Rattle.std.specs.Prelude.{Bool, List, ℕ, ltb}
use Rattle.base_lists.specs.Lists.{all}

-- each is below 256
abbrev pub are_bytes : List ℕ → Bool
are_bytes bs = all (λ b. ltb b 256) bs
