-- What a name stands for.
use Rattle.std.specs.Prelude.{ℕ, List, take}
use Rattle.tasks.specs.declared.name.Name.{Name}

-- the bytes of a name
abbrev pub name_bytes : Name → List ℕ
name_bytes n = take n.len n.bytes
