-- What each refusal tells: its number, a line and a place, the last two 0 where the cause has none.
use Rattle.std.specs.Prelude.{ℕ}
use Rattle.tasks.specs.declared.refusal.Refusal.{Refusal}
use Rattle.tasks.specs.declared.refusal.Refusal.TheVariants.{Text, FieldCount, Form, Value, PeriodFalls, NameUsed, TooManyLines, Declined, NoLines, Shut, AlreadyOpen, NoSuchTask, TooEarly, JobOpen, TickWord, TicksSpent}

-- number, line, place
abbrev pub told : Refusal → ℕ × ℕ × ℕ
told Text = (1, 0, 0)
told (FieldCount l p) = (2, l, p)
told (Form l p) = (3, l, p)
told (Value l p) = (4, l, p)
told (PeriodFalls l p) = (5, l, p)
told (NameUsed l p) = (6, l, p)
told (TooManyLines p) = (7, 33, p)
told (Declined l) = (8, l, 0)
told NoLines = (9, 0, 0)
told Shut = (10, 0, 0)
told AlreadyOpen = (11, 0, 0)
told NoSuchTask = (12, 0, 0)
told TooEarly = (13, 0, 0)
told JobOpen = (14, 0, 0)
told TickWord = (15, 0, 0)
told TicksSpent = (16, 0, 0)

-- the three one by one
abbrev pub told_number : Refusal → ℕ
told_number e = (told e).0

abbrev pub told_line : Refusal → ℕ
told_line e = (told e).1

abbrev pub told_place : Refusal → ℕ
told_place e = (told e).2
