-- The numbers of a text: digits, before which `-` may stand where the type is signed. (own)
use Rattle.std.specs.Prelude.{ℕ, ℤ, pos, neg_ℤ, ◌+◌, ◌-◌, ◌*◌, ◌==◌, ◌&&◌, nat_le, Bool, if◌then◌else◌, List, [], ◌∷◌, Option, Some, None}

-- the bytes of `0` to `9`
abbrev pub is_digit : ℕ → Bool
is_digit b = nat_le 48 b && nat_le b 57

-- the number that the digits write when they follow those of n
abbrev pub digits_after : ℕ → List ℕ → Option ℕ
digits_after n [] = Some n
digits_after n (b ∷ bytes) = if is_digit b then digits_after (n * 10 + (b - 48)) bytes else None

-- a number up to this one
abbrev pub up_to : ℕ → Option ℕ → Option ℕ
up_to most None = None
up_to most (Some n) = if nat_le n most then Some n else None

-- one digit or more
abbrev pub unsigned : ℕ → List ℕ → Option ℕ
unsigned most [] = None
unsigned most (b ∷ bytes) = up_to most (digits_after 0 (b ∷ bytes))

-- the number below 0
abbrev pub negative : Option ℕ → Option ℤ
negative None = None
negative (Some n) = Some (neg_ℤ (pos n))

-- the number itself
abbrev pub positive : Option ℕ → Option ℤ
positive None = None
positive (Some n) = Some (pos n)

-- an i64
abbrev pub signed : List ℕ → Option ℤ
signed [] = None
signed (b ∷ bytes) = if b == 45 then negative (unsigned 9223372036854775808 bytes) else positive (unsigned 9223372036854775807 (b ∷ bytes))
