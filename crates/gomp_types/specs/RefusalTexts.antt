-- How a refusal is printed. (own)
use Rattle.std.specs.Prelude.{◌≡◌, ℕ, List, ◌++◌, codes}
use Rattle.std.specs.Fmt.{decimal}
use Rattle.gomp_types.specs.declared.refusal.Place.{Place}
use Rattle.gomp_types.specs.declared.refusal.Place.TheVariants.{Share, Barrier, Stopped}
use Rattle.gomp_types.specs.declared.refusal.Clash.{Clash}
use Rattle.gomp_types.specs.declared.refusal.Refusal.{Refusal}
use Rattle.gomp_types.specs.declared.refusal.Refusal.TheVariants.{BadMember, Ended, Broken, Waiting, Leaving, InsideTask, NotInTask, InsideShare, OutsideShare, InOrdered, HoldsCritical, ZeroStep, BadChunk, LoopTooLong, BadSections, OrderedLoop, EndDiffers, NotDrained, Drained, NotOrdered, OrderedBackwards, NotInside, NotCancellable, NoGroup, GroupOpen, TooDeep, TooManyTasks, TooManyDepends, NameTooLong, AlreadyHeld, NotHolder, NoLock, CountTooLarge, TooManyShares, Mismatch, TraceFull, NoMemory, BadTeam, TooManyLevels, BadEnv}

-- the number of a refusal: of several that hold the least is the answer
abbrev pub number_of : Refusal → ℕ
number_of BadMember = 1
number_of Ended = 2
number_of (Broken clash) = 3
number_of Waiting = 4
number_of Leaving = 5
number_of InsideTask = 6
number_of NotInTask = 7
number_of InsideShare = 8
number_of OutsideShare = 9
number_of InOrdered = 10
number_of HoldsCritical = 11
number_of ZeroStep = 12
number_of BadChunk = 13
number_of LoopTooLong = 14
number_of BadSections = 15
number_of OrderedLoop = 16
number_of EndDiffers = 17
number_of NotDrained = 18
number_of Drained = 19
number_of NotOrdered = 20
number_of OrderedBackwards = 21
number_of NotInside = 22
number_of NotCancellable = 23
number_of NoGroup = 24
number_of GroupOpen = 25
number_of TooDeep = 26
number_of TooManyTasks = 27
number_of TooManyDepends = 28
number_of NameTooLong = 29
number_of AlreadyHeld = 30
number_of NotHolder = 31
number_of NoLock = 32
number_of CountTooLarge = 33
number_of TooManyShares = 34
number_of Mismatch = 35
number_of TraceFull = 36
number_of NoMemory = 37
number_of BadTeam = 38
number_of TooManyLevels = 39
number_of (BadEnv name) = 41

-- the name of a refusal
abbrev pub name_of : Refusal → List ℕ
name_of BadMember = codes "BadMember"
name_of Ended = codes "Ended"
name_of (Broken clash) = codes "Broken"
name_of Waiting = codes "Waiting"
name_of Leaving = codes "Leaving"
name_of InsideTask = codes "InsideTask"
name_of NotInTask = codes "NotInTask"
name_of InsideShare = codes "InsideShare"
name_of OutsideShare = codes "OutsideShare"
name_of InOrdered = codes "InOrdered"
name_of HoldsCritical = codes "HoldsCritical"
name_of ZeroStep = codes "ZeroStep"
name_of BadChunk = codes "BadChunk"
name_of LoopTooLong = codes "LoopTooLong"
name_of BadSections = codes "BadSections"
name_of OrderedLoop = codes "OrderedLoop"
name_of EndDiffers = codes "EndDiffers"
name_of NotDrained = codes "NotDrained"
name_of Drained = codes "Drained"
name_of NotOrdered = codes "NotOrdered"
name_of OrderedBackwards = codes "OrderedBackwards"
name_of NotInside = codes "NotInside"
name_of NotCancellable = codes "NotCancellable"
name_of NoGroup = codes "NoGroup"
name_of GroupOpen = codes "GroupOpen"
name_of TooDeep = codes "TooDeep"
name_of TooManyTasks = codes "TooManyTasks"
name_of TooManyDepends = codes "TooManyDepends"
name_of NameTooLong = codes "NameTooLong"
name_of AlreadyHeld = codes "AlreadyHeld"
name_of NotHolder = codes "NotHolder"
name_of NoLock = codes "NoLock"
name_of CountTooLarge = codes "CountTooLarge"
name_of TooManyShares = codes "TooManyShares"
name_of Mismatch = codes "Mismatch"
name_of TraceFull = codes "TraceFull"
name_of NoMemory = codes "NoMemory"
name_of BadTeam = codes "BadTeam"
name_of TooManyLevels = codes "TooManyLevels"
name_of (BadEnv name) = codes "BadEnv"

-- where a team broke
abbrev pub place_text : Place → List ℕ
place_text (Share number) = codes "share " ++ decimal number
place_text (Barrier number) = codes "barrier " ++ decimal number
place_text Stopped = codes "stopped"

-- by whom, and where
abbrev pub clash_text : Clash → List ℕ
clash_text clash = decimal clash.member ++ codes " " ++ place_text clash.place

-- the number and the name, and what broke the team
abbrev pub text_of : Refusal → List ℕ
text_of (Broken clash) = codes "E3 Broken " ++ clash_text clash
text_of refusal = codes "E" ++ decimal (number_of refusal) ++ codes " " ++ name_of refusal

-- a refusal's number, name and text
abbrev pub Prints : Refusal → ℕ → List ℕ → List ℕ → Type 0
Prints refusal number name text = (number_of refusal ≡ number) × (name_of refusal ≡ name) × (text_of refusal ≡ text)
