-- The keys of lines. (own)
use Rattle.std.specs.Prelude.{ℕ, true, false}
use Rattle.gomp_types.specs.declared.task.Task.{Task}
use Rattle.gomp_types.specs.declared.task.Task.TheVariants.{Implicit, Explicit}
use Rattle.gomp_depend.specs.declared.keys.LineKey.{LineKey}

-- the key of the line of a parent and an address
abbrev pub key_of : Task → ℕ → LineKey
key_of (Implicit m) a = record { is_explicit = false; parent = m; addr = a }
key_of (Explicit t) a = record { is_explicit = true; parent = t; addr = a }
