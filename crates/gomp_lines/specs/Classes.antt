-- The classes of the tasks that name one address. OpenMP API 5.2, section 15.9.5.
use Rattle.std.specs.Prelude.{ℕ, ◌==◌, not, Bool, true, false, if◌then◌else◌, List, [], ◌∷◌, Option, Some, None}
use Rattle.gomp_types.specs.declared.depend.Dep.{Dep}
use Rattle.gomp_types.specs.declared.depend.DepKind.{DepKind}
use Rattle.gomp_types.specs.declared.depend.DepKind.TheVariants.{DepIn, DepInoutset}
use Rattle.gomp_lines.specs.declared.classes.Class.{Class}
use Rattle.gomp_lines.specs.declared.classes.Class.TheVariants.{Readers, Set, Alone}

-- the class of a task with one item of this kind
abbrev pub kind_class : DepKind → Class
kind_class DepIn = Readers
kind_class DepInoutset = Set
kind_class _ = Alone

-- whether two tasks of these classes wait neither for the other: both are readers, or both of a set
abbrev pub shares : Class → Class → Bool
shares Readers Readers = true
shares Set Set = true
shares _ _ = false

-- the class of a task that has items of both classes
abbrev pub joint : Class → Class → Class
joint one other = if shares one other then one else Alone

-- and if it has none so far
abbrev pub joint_with : Option Class → Class → Class
joint_with None other = other
joint_with (Some one) other = joint one other

-- the class of a task at an address by these items, if it has this one there by others
abbrev pub class_with : Option Class → ℕ → List Dep → Option Class
class_with class a [] = class
class_with class a (item ∷ items) = class_with (if a == item.addr then Some (joint_with class (kind_class item.kind)) else class) a items

-- the class at an address of a task with these items; none if no item names it
abbrev pub class_at : ℕ → List Dep → Option Class
class_at a items = class_with None a items

-- whether the later of two tasks with these classes at an address waits there for the other: both name it, and they do not share it
abbrev pub waits_in_line : Option Class → Option Class → Bool
waits_in_line (Some one) (Some other) = not (shares one other)
waits_in_line _ _ = false
