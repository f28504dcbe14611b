-- Operations on a board with open waits, one after the other. (own)
use Rattle.std.specs.Prelude.{ℕ, ◌≡◌, ◌≤◌, ◌==◌, ◌⊎◌, if◌then◌else◌, true, false, List, [], ◌∷◌}
use Rattle.gomp_types.specs.declared.reply.Reply.{Reply}
use Rattle.gomp_types.specs.declared.reply.Reply.TheVariants.{Wait, Refused}
use Rattle.gomp_types.specs.RefusalTexts.{number_of}
use Rattle.gomp_board.specs.declared.op.Op.{Op}
use Rattle.gomp_waits.specs.Waits.{WaitBoardView, is_waiting, comes_amid_wait, PerformsOrWaits}

-- an operation of a member, and its answer
pub record Asked : Type 0 where
  pub member : ℕ
  pub op : Op
  pub reply : Reply

-- these operations, one after the other, lead from one board to another
abbrev pub Leads : List Asked → WaitBoardView → WaitBoardView → Type 0
Leads [] view after = after ≡ view
Leads (asked ∷ later) view after = (next : WaitBoardView) × PerformsOrWaits asked.op asked.member view next asked.reply × Leads later next after

-- those of the other members
abbrev pub of_others : ℕ → List Asked → List Asked
of_others m [] = []
of_others m (asked ∷ later) = if asked.member == m then of_others m later else asked ∷ of_others m later

-- the member neither stops the team nor goes on with its wait, unless it is answered to wait on
abbrev pub KeepsWaiting : ℕ → List Asked → Type 0
KeepsWaiting m [] = Unit {0}
KeepsWaiting m (asked ∷ later) = (asked.member ≡ m → (comes_amid_wait asked.op ≡ false) ⊎ (asked.reply ≡ Wait)) × KeepsWaiting m later

-- an answer that holds a member off: to wait on, or a refusal with a number not above that of Waiting
abbrev pub HoldsOff : Reply → Type 0
HoldsOff (Refused refusal) = number_of refusal ≤ 4
HoldsOff Wait = Unit {0}
HoldsOff _ = ⊥

-- each of the member's operations is answered so
abbrev pub AreHeldOff : ℕ → List Asked → Type 0
AreHeldOff m [] = Unit {0}
AreHeldOff m (asked ∷ later) = (asked.member ≡ m → HoldsOff asked.reply) × AreHeldOff m later

-- the member still waits, all that it asked was held off, and nothing of that has changed the board: the other members' operations alone lead to the same one
pub record StaysWaiting (m : ℕ) (steps : List Asked) (view after : WaitBoardView) : Type 0 where
  pub waits : is_waiting m after ≡ true
  pub answers : AreHeldOff m steps
  pub changes : Leads (of_others m steps) view after
