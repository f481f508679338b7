-- Bytes that a name is made of.
use Rattle.std.specs.Prelude.{ℕ, Bool, ◌&&◌, ◌||◌, List, length, ◌==◌, nat_le}
use Rattle.std.specs.List.{list_all}

-- each byte passes the test
abbrev pub every : (ℕ → Bool) → List ℕ → Bool
every p bs = list_all p bs

-- 0 to 9
abbrev pub digit : ℕ → Bool
digit b = nat_le 48 b && nat_le b 57

-- A to Z, a to z
abbrev pub letter : ℕ → Bool
letter b = (nat_le 65 b && nat_le b 90) || (nat_le 97 b && nat_le b 122)

-- a letter, a digit or an underscore
abbrev pub name_byte : ℕ → Bool
name_byte b = letter b || (digit b || b == 95)

-- 1 to 8 bytes of a name
abbrev pub is_name : List ℕ → Bool
is_name bs = nat_le 1 (length bs) && (nat_le (length bs) 8 && every name_byte bs)
