-- Which part of a team answers a call. (own)
use Rattle.gomp_types.specs.declared.call.Call.{Call}
use Rattle.gomp_types.specs.declared.call.Call.TheVariants.{LoopStart, LoopNext, LoopEndNowait, SectionsStart, SectionsNext, SectionsEndNowait, SingleStart, OrderedStart, OrderedEnd, CriticalStart, CriticalEnd, LockInit, NestInit, LockDestroy, Set, Test, Unset, SetNest, TestNest, UnsetNest, TaskCreate, TaskEnd, Taskwait, GroupStart, GroupEnd, Cancel, Point, Stop}
use Rattle.gomp_types.specs.declared.call.Server.{Server}
use Rattle.gomp_types.specs.declared.call.Server.TheVariants.{Shares, Board, Book, Team}
use Rattle.gomp_types.specs.declared.cancel.CancelKind.{CancelKind}
use Rattle.gomp_types.specs.declared.cancel.CancelKind.TheVariants.{Parallel, Loop, Sections, Taskgroup}

-- of a construct that cancels, or asks whether something is cancelled: the shares if it names one, else the board
abbrev pub kind_served_by : CancelKind → Server
kind_served_by Loop = Shares
kind_served_by Sections = Shares
kind_served_by Parallel = Board
kind_served_by Taskgroup = Board

-- of a call: what brings several parts together is the team's, a resume too
abbrev pub served_by : Call → Server
served_by (LoopStart loop) = Shares
served_by LoopNext = Shares
served_by LoopEndNowait = Shares
served_by (SectionsStart count end_kind) = Shares
served_by SectionsNext = Shares
served_by SectionsEndNowait = Shares
served_by SingleStart = Shares
served_by (OrderedStart value) = Shares
served_by OrderedEnd = Shares
served_by (CriticalStart name) = Book
served_by (CriticalEnd name) = Book
served_by LockInit = Book
served_by NestInit = Book
served_by (LockDestroy number) = Book
served_by (Set number) = Book
served_by (Test number) = Book
served_by (Unset number) = Book
served_by (SetNest number) = Book
served_by (TestNest number) = Book
served_by (UnsetNest number) = Book
served_by (TaskCreate desc) = Board
served_by TaskEnd = Board
served_by (Taskwait items) = Board
served_by GroupStart = Board
served_by GroupEnd = Board
served_by Stop = Board
served_by (Cancel kind clause) = kind_served_by kind
served_by (Point kind) = kind_served_by kind
served_by _ = Team
