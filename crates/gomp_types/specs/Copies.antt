-- Calls that are copied part by part. (own)
use Rattle.std.specs.Prelude.{◌≢◌, ⊤, []}
use Rattle.gomp_types.specs.declared.call.Call.{Call}
use Rattle.gomp_types.specs.declared.call.Call.TheVariants.{TaskCreate, Taskwait, SectionsStart, Cancel}

-- a call without items of a `depend` clause
abbrev pub HasNoItems : Call → Type 0
HasNoItems (TaskCreate desc) = ⊥
HasNoItems (Taskwait deps) = ⊥
HasNoItems _ = ⊤

-- a call that has one part at most
abbrev pub HasOnePart : Call → Type 0
HasOnePart (SectionsStart count end_kind) = ⊥
HasOnePart (Cancel kind clause) = ⊥
HasOnePart _ = ⊤

-- a call with items of a `depend` clause: only its copy takes memory
abbrev pub CopyTakesMemory : Call → Type 0
CopyTakesMemory (TaskCreate desc) = desc.deps ≢ []
CopyTakesMemory (Taskwait deps) = deps ≢ []
CopyTakesMemory _ = ⊥
