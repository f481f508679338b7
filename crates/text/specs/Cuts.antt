-- Bytes of a text with their place, cut at a mark into parts.
use Rattle.std.specs.Prelude.{ℕ, suc, ◌+◌, cond, List, [], ◌∷◌, ◌==◌, take}

-- bytes of a text, and the place of the first
pub record Placed : Type 0 where
  pub place : ℕ
  pub bytes : List ℕ

abbrev pub placed : ℕ → List ℕ → Placed
placed p bs = record { place = p; bytes = bs }

-- the byte b, at place p, in front of the first part
abbrev pub in_front : ℕ → ℕ → List Placed → List Placed
in_front b p [] = placed p (b ∷ []) ∷ []
in_front b p (q ∷ qs) = placed p (b ∷ q.bytes) ∷ qs

-- the parts between the bytes c, of bytes that begin at place p: one more than there are c
abbrev pub parted : ℕ → ℕ → List ℕ → List Placed
parted c p [] = placed p [] ∷ []
parted c p (b ∷ bs) = cond (b == c) (placed p [] ∷ parted c (p + 1) bs) (in_front b p (parted c (p + 1) bs))

-- the parts that end in a byte c, or at the end of the bytes: as many as there are c where c stands last
abbrev pub ended : ℕ → ℕ → List ℕ → List Placed
ended c p [] = []
ended c p (b ∷ bs) = cond (b == c) (placed p [] ∷ ended c (p + 1) bs) (in_front b p (ended c (p + 1) bs))

-- how many bytes stand before the first c
abbrev pub lead : ℕ → List ℕ → ℕ
lead c [] = 0
lead c (b ∷ bs) = cond (b == c) 0 (suc (lead c bs))

-- how many of the bytes are c
abbrev pub count : ℕ → List ℕ → ℕ
count c [] = 0
count c (b ∷ bs) = cond (b == c) (suc (count c bs)) (count c bs)

-- the parts that end in a byte c: all between them but the last
abbrev pub closed : ℕ → ℕ → List ℕ → List Placed
closed c p bs = take (count c bs) (parted c p bs)

-- the last byte, and 0 where there is none
abbrev pub last_byte : List ℕ → ℕ
last_byte [] = 0
last_byte (b ∷ []) = b
last_byte (b ∷ c ∷ bs) = last_byte (c ∷ bs)

-- the lines of a text, each ended by a line feed
abbrev pub lines_in : List ℕ → List Placed
lines_in text = ended 10 0 text

-- the fields of a line, parted by commas
abbrev pub fields_in : Placed → List Placed
fields_in l = parted 44 l.place l.bytes
