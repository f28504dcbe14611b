-- What a step leaves of a team as it was: for each line of that what it alone refuses.
use Rattle.std.proofs.Common.{ℕ, Bool, true, false, List, [], ◌∷◌, Option, Some, None, refl, arith, ap}
use Rattle.std.specs.Prelude.{replicate}
use Rattle.gomp_types.specs.declared.call.Call.{Call}
use Rattle.gomp_types.specs.declared.call.Call.TheVariants.{LoopNext, Barrier, TaskCreate, Resume}
use Rattle.gomp_types.specs.declared.limits.TheConstants.{OPEN_SHARES}
use Rattle.gomp_types.specs.declared.refusal.Place.TheVariants.{Share}
use Rattle.gomp_types.specs.declared.refusal.Refusal.TheVariants.{Mismatch, NoMemory, InsideShare}
use Rattle.gomp_types.specs.declared.reply.Reply.TheVariants.{Passed, Wait, Refused}
use Rattle.gomp_types.specs.Limits.{standard}
use Rattle.gomp_types.specs.declared.limits.Limits.{Limits}
use Rattle.gomp_icv.specs.Variables.{Variables, initial}
use Rattle.gomp_model.specs.Past.{Waits, no_waits}
use Rattle.gomp_scheduler.specs.Schedulers.{SchedulerView}
use Rattle.gomp_board.specs.Boards.{BoardView}
use Rattle.gomp_board.proofs.Refused.{break_that_gives_nothing_back}
use Rattle.gomp_dispatch.specs.declared.leaving.Leaving.{Leaving}
use Rattle.gomp_dispatch.specs.Leaves.{leaves_nothing}
use Rattle.gomp_core.specs.Stands.{TeamView, Keeps}

module _ (scheduler : SchedulerView) where
  -- a board of two members on which nothing happened, with any scheduler
  abbrev plain_board : BoardView
  plain_board = record {
    limits = standard;
    history = [];
    room = 5;
    kept = 0 ∷ 0 ∷ [];
    clash = None;
    scheduler = scheduler;
    payloads = replicate OPEN_SHARES None;
  }

  -- the calls of a member: one that waits, and those beneath
  abbrev calls_of : Option Call → List Call → Waits
  calls_of waiting calls = record { open_call = waiting; beneath = calls }

  -- a team of two of which the first waits at a barrier, with a number for its shares
  abbrev one_waits : TeamView ℕ
  one_waits = record {
    icv = initial;
    board = plain_board;
    waits = calls_of (Some Barrier) [] ∷ no_waits ∷ [];
    leaving = leaves_nothing ∷ leaves_nothing ∷ [];
    book = record { names = []; locks = [] };
    shares = 7;
  }

  -- the same, but nobody waits
  abbrev none_waits : TeamView ℕ
  none_waits = record one_waits { waits = no_waits ∷ no_waits ∷ [] }

  -- and but for its shares
  abbrev other_shares : TeamView ℕ
  other_shares = record one_waits { shares = 8 }

  -- and but for its locks
  abbrev other_book : TeamView ℕ
  other_book = record one_waits { book = record { names = []; locks = None ∷ [] } }

  -- and but for its first member, which leaves the region
  abbrev other_leaving : TeamView ℕ
  other_leaving = record one_waits { leaving = record { region = true; task = false } ∷ leaves_nothing ∷ [] }

  -- and but for its board, which has more room, is broken, or keeps some for the second member
  abbrev more_room : TeamView ℕ
  more_room = record one_waits { board = record plain_board { room = 8 } }

  abbrev broken_at_share : TeamView ℕ
  broken_at_share = record one_waits { board = record plain_board { clash = Some (record { member = 1; place = Share 0 }) } }

  abbrev more_kept : TeamView ℕ
  more_kept = record one_waits { board = record plain_board { kept = 0 ∷ 2 ∷ [] } }

  -- the call of the first member that waits
  abbrev first_waiting : TeamView ℕ → Option Call
  first_waiting team = first_of_all team.waits
    where
      first_of_all : List Waits → Option Call
      first_of_all [] = None
      first_of_all (calls ∷ rest) = calls.open_call

  -- whether its first member leaves the region
  abbrev first_leaves : TeamView ℕ → Bool
  first_leaves team = first_region team.leaving
    where
      first_region : List Leaving → Bool
      first_region [] = false
      first_region (leaving ∷ rest) = leaving.region

  -- a step may close a wait
  pub keeps_what_is_left : Keeps one_waits none_waits Resume Passed
  keeps_what_is_left = record {
    members = refl;
    icv = refl;
    limits = refl;
    refused = λ refusal is. absurd (cc);
    lacks = λ is. absurd (cc);
    broken = λ is. absurd (cc);
    waits = λ is. absurd (cc);
  }

  -- one that finds no memory changes nothing
  pub keeps_without_memory : Keeps one_waits one_waits (TaskCreate (record { code = 1; arg = 2; undeferred = false; final_task = false; deps = [] })) (Refused NoMemory)
  keeps_without_memory = record {
    members = refl;
    icv = refl;
    limits = refl;
    refused = λ refusal is differs lacks. refl;
    lacks = λ is. (refl, record { history = refl; room = refl; kept = refl; stands = λ h st. st; stood = λ h st. st });
    broken = λ is. absurd (cc);
    waits = λ is. absurd (cc);
  }

  -- no step takes a member away
  pub keeps_no_members : Keeps one_waits (record one_waits { waits = no_waits ∷ [] }) Resume Passed → ⊥
  keeps_no_members keeps = absurd (let members = keeps.members in omega arith)

  -- or sets a control variable
  pub keeps_other_variables : Keeps one_waits (record one_waits { icv = record initial { cancellation = true } }) Resume Passed → ⊥
  keeps_other_variables keeps = absurd (let cancels = ap (λ (variables : Variables). variables.cancellation) keeps.icv in cc)

  -- or a limit
  pub keeps_other_limits : Keeps one_waits (record one_waits { board = record plain_board { limits = record standard { shares = 4 } } }) Resume Passed → ⊥
  keeps_other_limits keeps = absurd (let shares = ap (λ (limits : Limits). limits.shares) keeps.limits in omega arith)

  -- a refused one closes no wait
  pub keeps_no_wait : Keeps one_waits none_waits LoopNext (Refused InsideShare) → ⊥
  keeps_no_wait keeps = absurd (let waiting = ap first_waiting (keeps.refused InsideShare refl (λ is. absurd (cc)) (λ is. absurd (cc))) in cc)

  -- and does not break the team, if it is no mismatch
  pub keeps_no_break : Keeps one_waits broken_at_share LoopNext (Refused InsideShare) → ⊥
  keeps_no_break keeps = absurd (let broken = ap (λ (team : TeamView ℕ). team.board.clash) (keeps.refused InsideShare refl (λ is. absurd (cc)) (λ is. absurd (cc))) in cc)

  -- one that finds no memory asks for no room, keeps none, and closes no wait
  pub keeps_no_room :
      (Keeps one_waits more_room Barrier (Refused NoMemory) → ⊥) × (Keeps one_waits more_kept Barrier (Refused NoMemory) → ⊥) × (Keeps one_waits none_waits Barrier (Refused NoMemory) → ⊥)
      × (Keeps one_waits other_shares Barrier (Refused NoMemory) → ⊥)
  keeps_no_room = (
    λ keeps. absurd (let room = (keeps.lacks refl).1.room in omega (arith, room)),
    λ keeps. absurd (let kept = (keeps.lacks refl).1.kept in cc),
    λ keeps. absurd (let waiting = ap first_waiting (keeps.lacks refl).0 in cc),
    λ keeps. absurd (let shares = ap (λ (team : TeamView ℕ). team.shares) (keeps.lacks refl).0 in omega arith),
  )

  -- one that breaks the team changes nothing else, neither a wait nor the shares, nor the room
  pub keeps_less_at_a_break :
      (Keeps one_waits (record broken_at_share { waits = no_waits ∷ no_waits ∷ [] }) LoopNext (Refused Mismatch) → ⊥) × (Keeps one_waits (record broken_at_share { shares = 8 }) LoopNext (Refused Mismatch) → ⊥)
      × (Keeps one_waits more_room LoopNext (Refused Mismatch) → ⊥) × (Keeps one_waits more_kept LoopNext (Refused Mismatch) → ⊥)
  keeps_less_at_a_break = (
    λ keeps. absurd (let waiting = ap first_waiting (keeps.broken refl).0 in cc),
    λ keeps. absurd (let shares = ap (λ (team : TeamView ℕ). team.shares) (keeps.broken refl).0 in omega arith),
    λ keeps. absurd (let room = (keeps.broken refl).1.2.room in omega (arith, room)),
    λ keeps. absurd (let broken = (keeps.broken refl).1 in let kept = (break_that_gives_nothing_back broken.0 broken.1 one_waits.board more_kept.board broken.2).1 in cc),
  )

  -- nor does a resume that waits on, neither a wait nor the shares nor the board
  pub keeps_less_at_a_wait : (Keeps one_waits none_waits Resume Wait → ⊥) × (Keeps one_waits other_shares Resume Wait → ⊥) × (Keeps one_waits more_room Resume Wait → ⊥)
  keeps_less_at_a_wait = (
    λ keeps. absurd (let waiting = ap first_waiting (keeps.waits refl refl) in cc),
    λ keeps. absurd (let shares = ap (λ (team : TeamView ℕ). team.shares) (keeps.waits refl refl) in omega arith),
    λ keeps. absurd (let room = ap (λ (team : TeamView ℕ). team.board.room) (keeps.waits refl refl) in omega (arith, room)),
  )

  -- none of them makes a lock
  pub keeps_the_book :
      (Keeps one_waits other_book LoopNext (Refused InsideShare) → ⊥) × (Keeps one_waits other_book LoopNext (Refused Mismatch) → ⊥) × (Keeps one_waits other_book Barrier (Refused NoMemory) → ⊥) × (Keeps one_waits other_book Resume Wait → ⊥)
  keeps_the_book = (
    λ keeps. absurd (let locks = ap (λ (team : TeamView ℕ). team.book.locks) (keeps.refused InsideShare refl (λ is. absurd (cc)) (λ is. absurd (cc))) in cc),
    λ keeps. absurd (let locks = ap (λ (team : TeamView ℕ). team.book.locks) (keeps.broken refl).0 in cc),
    λ keeps. absurd (let locks = ap (λ (team : TeamView ℕ). team.book.locks) (keeps.lacks refl).0 in cc),
    λ keeps. absurd (let locks = ap (λ (team : TeamView ℕ). team.book.locks) (keeps.waits refl refl) in cc),
  )

  -- or has a member leave what it is in
  pub keeps_who_leaves :
      (Keeps one_waits other_leaving LoopNext (Refused InsideShare) → ⊥) × (Keeps one_waits other_leaving LoopNext (Refused Mismatch) → ⊥) × (Keeps one_waits other_leaving Barrier (Refused NoMemory) → ⊥)
      × (Keeps one_waits other_leaving Resume Wait → ⊥)
  keeps_who_leaves = (
    λ keeps. absurd (let leaving = ap first_leaves (keeps.refused InsideShare refl (λ is. absurd (cc)) (λ is. absurd (cc))) in cc),
    λ keeps. absurd (let leaving = ap first_leaves (keeps.broken refl).0 in cc),
    λ keeps. absurd (let leaving = ap first_leaves (keeps.lacks refl).0 in cc),
    λ keeps. absurd (let leaving = ap first_leaves (keeps.waits refl refl) in cc),
  )
