-- What the board answers an operation that no test refuses, and for what the shares and the board stand then.
use Rattle.std.proofs.Common.{◌≡◌, ◌≢◌, ◌<◌, ◌≤◌, ℕ, ◌+◌, ◌-◌, Bool, true, false, List, [], ◌∷◌, ◌++◌, Option, Some, None, refl, ap, sym, subst, ◌∙◌, arith, inl, inr}
use Rattle.std.specs.Prelude.{slice_index_or, slice_set, IfSome, if◌then◌else◌, nat_lt}
use Rattle.std.proofs.lemmas.Bool.{cases_eq}
use Rattle.std.proofs.lemmas.Bool.Decides.{nat_tests}
use Rattle.std.proofs.lemmas.List.{get_or-set_same, get_or-set_other}
use Rattle.gomp_types.specs.declared.limits.Limits.{Limits}
use Rattle.gomp_types.specs.declared.refusal.Clash.{Clash}
use Rattle.gomp_types.specs.declared.refusal.Refusal.{Refusal}
use Rattle.gomp_types.specs.declared.refusal.Refusal.TheVariants.{NoMemory}
use Rattle.gomp_types.specs.declared.reply.Reply.{Reply}
use Rattle.gomp_types.specs.declared.reply.Reply.TheVariants.{Refused}
use Rattle.gomp_types.specs.declared.shape.Shape.{Shape}
use Rattle.gomp_events.specs.declared.event.Event.{Event}
use Rattle.gomp_events.specs.Events.{open_share, has_left_region, clash_of}
use Rattle.gomp_events.specs.Laws.{Always}
use Rattle.gomp_events.specs.Breaks.{broken_tests}
use Rattle.gomp_types.proofs.Booleans.{and_left}
use Rattle.gomp_types.proofs.LeastTests.{AllFail, none_holds, both_lists_fail}
use Rattle.gomp_shares.specs.Calls.{IsNoShareEvent as SharesAside}
use Rattle.gomp_model.specs.Past.{Terms, Past}
use Rattle.gomp_model.specs.Row.{Row, unless_repeated, begun_past, MayGive, given_after, past_given, asks_memory, room_after}
use Rattle.gomp_model.specs.Starts.{share_room}
use Rattle.gomp_board.specs.declared.op.Op.{Op}
use Rattle.gomp_board.specs.Ops.{op_asks, op_keeps, op_gives_back, op_begins, op_gives, op_tests, op_refusal, op_after, begun, op_member_tests, goes_on_waiting, keeps_room, op_may_lack, OpReply, OpAnswer}
use Rattle.gomp_board.specs.Boards.{BoardView, Stands as BoardStands, IsOpAdmittedOnce, Performs, members_of, kept_by, kept_after, op_room_after as board_room_after}
use Rattle.gomp_board.proofs.Laws.{events_aside_keep_board}
use Rattle.gomp_board.proofs.Waiting.{IsReply, after_reply}
use Rattle.gomp_board.proofs.Performed.{room_of_reply}
use Rattle.gomp_dispatch.specs.declared.leaving.Manner.{Manner}
use Rattle.gomp_dispatch.specs.Leaves.{IsMadeSo}
use Rattle.gomp_dispatch.specs.Answers.{room_left, PutsInside, ServersStand, ArePartsKept, ServersAdmitMember, SomeServersAdmit, LeavesBoard, AnswersCall}
use Rattle.gomp_dispatch.specs.Serves.{asked_once}
use Rattle.gomp_dispatch.proofs.BoardEvents.{AreBesideBoth, beside_both, beside_board, shares_stand_beside, shares_stay, puts_stay_with_board, puts_no_words, begins_on_board, gives_on_board}

-- Tests

unbroken_fail : (clash : Option Clash) → clash ≡ None → AllFail (broken_tests clash)
unbroken_fail None whole = tt
unbroken_fail (Some clash) whole = absurd (cc)

-- an operation of a member in the region, whose team is not broken, is refused by none but its own tests
pub op_fine : (limits : Limits) (room kept m : ℕ) (op : Op) (h : List Event) → has_left_region m h ≡ false → clash_of h ≡ None → AllFail (op_tests limits room kept m op h) → op_refusal limits room kept m op h ≡ None
op_fine limits room kept m op h inside whole own =
    none_holds (op_member_tests m h ++ op_tests limits room kept m op h) (both_lists_fail (op_member_tests m h) (op_tests limits room kept m op h) (inside, unbroken_fail (clash_of h) whole) own)

-- Refusals

-- one that no test refuses is refused for want of memory alone
pub refused_for_memory : (limits : Limits) (room kept members m : ℕ) (op : Op) (h : List Event) (refusal : Refusal) → op_refusal limits room kept m op h ≡ None → OpAnswer limits room kept members m op h (Refused refusal) → refusal ≡ NoMemory
refused_for_memory limits room kept members m op h NoMemory fine answer = refl
refused_for_memory limits room kept members m op h _ fine answer = absurd (let both = sym fine ∙ answer in cc)

pub memory_was_asked : (limits : Limits) (room kept members m : ℕ) (op : Op) (h : List Event) → OpAnswer limits room kept members m op h (Refused NoMemory) → op_may_lack op kept m h ≡ true
memory_was_asked limits room kept members m op h answer = answer.1

some_asked : (n : ℕ) → nat_lt 0 n ≡ true → 0 < n
some_asked n e = grind (arith, nat_tests)

-- which asks for room
pub room_was_asked : (op : Op) (kept m : ℕ) (h : List Event) → op_may_lack op kept m h ≡ true → 0 < op_asks op kept
room_was_asked op kept m h asks = some_asked (op_asks op kept) (and_left (nat_lt 0 (op_asks op kept)) _ asks)

pub op_reply_given : (limits : Limits) (room kept members m : ℕ) (op : Op) (h : List Event) (reply : Reply) → IsReply reply → OpAnswer limits room kept members m op h reply → OpReply members m op (begun m op h) reply
op_reply_given limits room kept members m op h (Refused refusal) is answer = absurd is
op_reply_given limits room kept members m op h _ is answer = answer.1

-- What a board keeps then

kept_list : (op : Op) (m : ℕ) (reply : Reply) (kept : List ℕ) → IsReply reply → kept_after op m reply kept ≡ slice_set kept m (op_keeps op (slice_index_or kept m 0))
kept_list op m (Refused refusal) kept is = absurd is
kept_list op m _ kept is = refl

pub own_room_kept : (op : Op) (m : ℕ) (board after : BoardView) (reply : Reply) → m < members_of board → Performs op m board after reply → IsReply reply → kept_by m after ≡ op_keeps op (kept_by m board)
own_room_kept op m board after reply low performs is =
    ap (λ (kept : List ℕ). slice_index_or kept m 0) (performs.kept ∙ kept_list op m reply board.kept is) ∙ get_or-set_same board.kept m (op_keeps op (kept_by m board)) 0 low

others_in_list : (op : Op) (m k : ℕ) (reply : Reply) (kept : List ℕ) → k ≢ m → slice_index_or (kept_after op m reply kept) k 0 ≡ slice_index_or kept k 0
others_in_list op m k (Refused refusal) kept other = get_or-set_other kept m k (slice_index_or kept m 0 - op_gives_back op refusal (slice_index_or kept m 0)) 0 other
others_in_list op m k _ kept other = get_or-set_other kept m k (op_keeps op (slice_index_or kept m 0)) 0 other

pub others_kept : (op : Op) (m k : ℕ) (board after : BoardView) (reply : Reply) → Performs op m board after reply → k ≢ m → kept_by k after ≡ kept_by k board
others_kept op m k board after reply performs other = ap (λ (kept : List ℕ). slice_index_or kept k 0) performs.kept ∙ others_in_list op m k reply board.kept other

pub op_leaves_board : (op : Op) (m : ℕ) (board after : BoardView) (reply : Reply) → Performs op m board after reply → LeavesBoard m board after
op_leaves_board op m board after reply performs = record { members = performs.members; limits = performs.limits; others = λ k other. others_kept op m k board after reply performs other }

pub room_made : (op : Op) (m : ℕ) (board after : BoardView) (reply : Reply) → Performs op m board after reply → IsReply reply → keeps_room op reply ≡ true → after.room ≡ board.room + op_asks op (kept_by m board)
room_made op m board after reply performs is keeps = performs.room ∙ room_of_reply op (kept_by m board) board.room reply is keeps

-- The past after a reply

pub given_events : (row : Row) (repeated : Bool) (m : ℕ) (p : Past) (reply : Reply) → IsReply reply → (past_given row repeated m p reply).events ≡ given_after row repeated m p reply
given_events row repeated m p (Refused refusal) is = absurd is
given_events row repeated m p _ is = refl

pub given_terms : (row : Row) (repeated : Bool) (m : ℕ) (p : Past) (reply : Reply) → (past_given row repeated m p reply).terms ≡ p.terms
given_terms row repeated m p (Refused refusal) = refl
given_terms row repeated m p _ = refl

pub given_room : (row : Row) (repeated : Bool) (m : ℕ) (p : Past) (reply : Reply) → IsReply reply → (past_given row repeated m p reply).room ≡ room_after repeated row reply p.room
given_room row repeated m p (Refused refusal) is = absurd is
given_room row repeated m p _ is = refl

-- a row of which each reply keeps the room, or that asks for none
abbrev pub KeepsAll : Row → Type 0
KeepsAll row = (reply : Reply) → row.keeps_room reply ≡ false → row.room ≡ 0

all_kept : (room asked : ℕ) (keeps : Bool) → (keeps ≡ false → asked ≡ 0) → (if keeps then room + asked else room) ≡ room + asked
all_kept room asked true all = refl
all_kept room asked false all = let none = all refl in omega (arith, none)

pub room_asked_for : (row : Row) (repeated : Bool) (reply : Reply) (room : ℕ) → KeepsAll row → IsReply reply → room_after repeated row reply room ≡ room + asked_once repeated row.room
room_asked_for row repeated (Refused refusal) room all is = absurd is
room_asked_for row true _ room all is = omega arith
room_asked_for row false reply room all is = kept_so row reply room all is
  where
    kept_so : (row : Row) (reply : Reply) (room : ℕ) → KeepsAll row → IsReply reply → room_after false row reply room ≡ room + row.room
    kept_so row (Refused refusal) room all is = absurd is
    kept_so row reply room all is = all_kept room row.room (row.keeps_room reply) (all reply)

-- the parts stand for a past by its terms, its events and its room
pub parts_at : {S : Type 0} (stands : S → List Event → Type 0) (shares : S) (board : BoardView) (q : Past) (terms : Terms) (h : List Event) (room : ℕ) → q.terms ≡ terms → q.events ≡ h → q.room ≡ room →
    stands shares h → BoardStands board h → terms.members ≡ members_of board → terms.limits ≡ board.limits → room ≡ board.room → ((k : ℕ) → room_left (open_share k h) ≤ kept_by k board) → Always PutsInside h → ServersStand stands shares board q
parts_at stands shares board q terms h room terms_are events_are room_is st board_st members limits same kept puts = record {
  shares_are = subst (λ (es : List Event). stands shares es) (sym events_are) st;
  board_is = subst (λ (es : List Event). BoardStands board es) (sym events_are) board_st;
  members = ap (λ (t : Terms). t.members) terms_are ∙ members;
  limits = ap (λ (t : Terms). t.limits) terms_are ∙ limits;
  room = room_is ∙ same;
  kept = λ k. subst (λ (es : List Event). room_left (open_share k es) ≤ kept_by k board) (sym events_are) (kept k);
  puts = subst (λ (es : List Event). Always PutsInside es) (sym events_are) puts;
}

-- A call that the board answers by one operation

-- in this past the operation is the call's, save for what the member sees beside
pub record IsCallOp (op : Op) (row : Row) (repeated : Bool) (m : ℕ) (board : BoardView) (p : Past) : Type 0 where
  pub fine : op_refusal board.limits board.room (kept_by m board) m op p.events ≡ None
  -- want of memory is the call's too
  pub memory : op_may_lack op (kept_by m board) m p.events ≡ true → (repeated ≡ false) × (0 < row.room) × (asks_memory row m p ≡ true)
  pub begins : op_begins m op p.events ≡ unless_repeated (row.begins m p) repeated
  pub may : (reply : Reply) → OpReply (members_of board) m op (begun m op p.events) reply → row.may_reply m (begun_past repeated row m p) reply
  -- what the member sees by the reply
  pub sees : Reply → List Event
  pub beside : (reply : Reply) → AreBesideBoth (sees reply)
  pub gives : (reply : Reply) → OpReply (members_of board) m op (begun m op p.events) reply → row.gives m (begun_past repeated row m p) reply ≡ sees reply ++ op_gives m op (begun m op p.events) reply
  -- the room that was asked for then
  pub room : (reply : Reply) (n : ℕ) → IsReply reply → board_room_after op (kept_by m board) reply n ≡ room_after repeated row reply n
  pub own : room_left (open_share m p.events) ≤ op_keeps op (kept_by m board)
  pub no_words : puts_no_words op ≡ true

-- so no test refuses it
pub op_is_admitted : (op : Op) (row : Row) (repeated : Bool) (m : ℕ) (board : BoardView) (p : Past) → BoardStands board p.events → IsCallOp op row repeated m board p → IsOpAdmittedOnce op m board
op_is_admitted op row repeated m board p st is_op = (p.events, st, is_op.fine)

-- no events: what a member sees by the reply to most calls
pub sees_nothing : (reply : Reply) → AreBesideBoth []
sees_nothing reply = tt

pub positive_once : (repeated : Bool) (room : ℕ) → 0 < asked_once repeated room → (repeated ≡ false) × (0 < room)
positive_once true room much = absurd (omega (arith, much))
positive_once false room much = (refl, much)

pub append_nested : (xs ys zs : List Event) → (xs ++ ys) ++ zs ≡ xs ++ (ys ++ zs)
append_nested [] ys zs = refl
append_nested (x ∷ xs) ys zs = ap (λ (es : List Event). x ∷ es) (append_nested xs ys zs)

module _ {S : Type 0} (stands : S → List Event → Type 0) (shares : S) (aside : (h : List Event) (event : Event) → SharesAside event → stands shares h → stands shares (event ∷ h)) (op : Op) (row : Row) (repeated : Bool) (m : ℕ) (board after : BoardView) (p : Past)
    (low : m < members_of board) (parts : ServersStand stands shares board p) (is_op : IsCallOp op row repeated m board p) where
  -- for want of memory it is refused once
  op_asked : Performs op m board after (Refused NoMemory) → (repeated ≡ false) × (0 < row.room) × (asks_memory row m p ≡ true)
  op_asked performs = is_op.memory (memory_was_asked board.limits board.room (kept_by m board) (members_of board) m op p.events (performs.answer p.events parts.board_is))

  pub op_lacks : Performs op m board after (Refused NoMemory) → ArePartsKept shares board shares after × (repeated ≡ false) × (0 < row.room)
  op_lacks performs = let asked = op_asked performs in ((refl, performs.same NoMemory refl (λ e. cc)), asked.0, asked.1)

  pub op_refuses : (refusal : Refusal) → Performs op m board after (Refused refusal) → refusal ≡ NoMemory
  op_refuses refusal performs = refused_for_memory board.limits board.room (kept_by m board) (members_of board) m op p.events refusal is_op.fine (performs.answer p.events parts.board_is)

  pub op_gives_reply : (reply : Reply) → Performs op m board after reply → MayGive row repeated m p reply
  op_gives_reply (Refused NoMemory) performs = (op_asked performs).2
  op_gives_reply (Refused _) performs = absurd (let e = op_refuses _ performs in cc)
  op_gives_reply _ performs = is_op.may _ (op_reply_given board.limits board.room (kept_by m board) (members_of board) m op p.events _ tt (performs.answer p.events parts.board_is))

  -- the events after its reply are the row's
  op_events : (reply : Reply) → IsReply reply → Performs op m board after reply → given_after row repeated m p reply ≡ is_op.sees reply ++ op_after m op reply p.events
  op_events reply is performs =
      let answer = op_reply_given board.limits board.room (kept_by m board) (members_of board) m op p.events reply is (performs.answer p.events parts.board_is) in
      ap (λ (es : List Event). es ++ (unless_repeated (row.begins m p) repeated ++ p.events)) (is_op.gives reply answer)
      ∙ append_nested (is_op.sees reply) (op_gives m op (begun m op p.events) reply) (unless_repeated (row.begins m p) repeated ++ p.events)
      ∙ ap (λ (es : List Event). is_op.sees reply ++ (op_gives m op (begun m op p.events) reply ++ (es ++ p.events))) (sym is_op.begins)
      ∙ ap (λ (es : List Event). is_op.sees reply ++ es) (sym (after_reply m op reply p.events is))

  op_kept : (reply : Reply) → IsReply reply → Performs op m board after reply → (k : ℕ) → room_left (open_share k p.events) ≤ kept_by k after
  op_kept reply is performs k = elim (cases_eq k m) [
    | inl same ↦ subst (λ (x : ℕ). room_left (open_share x p.events) ≤ kept_by x after) (sym same) (subst (λ (n : ℕ). room_left (open_share m p.events) ≤ n) (sym (own_room_kept op m board after reply low performs is)) is_op.own)
    | inr other ↦ subst (λ (n : ℕ). room_left (open_share k p.events) ≤ n) (sym (others_kept op m k board after reply performs other)) (parts.kept k)
  ]

  op_stands_after : (reply : Reply) → IsReply reply → Performs op m board after reply → ServersStand stands shares after (past_given row repeated m p reply)
  op_stands_after reply is performs =
      let sees = is_op.sees reply in
      let given = op_gives m op (begun m op p.events) reply in
      let begins = op_begins m op p.events in
      let all = sees ++ (given ++ (begins ++ p.events)) in
      let are_seen = beside_both sees (is_op.beside reply) in
      let are_given = gives_on_board m op (begun m op p.events) reply in
      let are_begun = begins_on_board m op p.events is_op.no_words in
      let same : op_after m op reply p.events ≡ given ++ (begins ++ p.events) = after_reply m op reply p.events is in
      let events : (past_given row repeated m p reply).events ≡ all = given_events row repeated m p reply is ∙ op_events reply is performs ∙ ap (λ (es : List Event). sees ++ es) same in
      parts_at stands shares after (past_given row repeated m p reply) p.terms all (room_after repeated row reply p.room) (given_terms row repeated m p reply) events (given_room row repeated m p reply is)
      (shares_stand_beside stands shares aside sees (given ++ (begins ++ p.events)) are_seen (shares_stand_beside stands shares aside given (begins ++ p.events) are_given (shares_stand_beside stands shares aside begins p.events are_begun parts.shares_are)))
      (events_aside_keep_board after (given ++ (begins ++ p.events)) sees (beside_board sees (is_op.beside reply)) (subst (λ (es : List Event). BoardStands after es) same (performs.stands p.events parts.board_is)))
      (parts.members ∙ sym performs.members) (parts.limits ∙ sym performs.limits)
      (ap (λ (n : ℕ). room_after repeated row reply n) parts.room ∙ sym (is_op.room reply board.room is) ∙ sym performs.room)
      (λ k. subst (λ (o : Option (ℕ × Shape)). room_left o ≤ kept_by k after)
      (sym (shares_stay k sees (given ++ (begins ++ p.events)) are_seen ∙ shares_stay k given (begins ++ p.events) are_given ∙ shares_stay k begins p.events are_begun)) (op_kept reply is performs k))
      (puts_stay_with_board sees (given ++ (begins ++ p.events)) are_seen (puts_stay_with_board given (begins ++ p.events) are_given (puts_stay_with_board begins p.events are_begun parts.puts)))

  op_lacks_stands : Performs op m board after (Refused NoMemory) → ServersStand stands shares after p
  op_lacks_stands performs =
      let same = (op_lacks performs).0.1 in
      parts_at stands shares after p p.terms p.events p.room refl refl refl parts.shares_are (same.stands p.events parts.board_is) (parts.members ∙ sym performs.members) (parts.limits ∙ sym performs.limits)
      (parts.room ∙ sym same.room) (λ k. subst (λ (kept : List ℕ). room_left (open_share k p.events) ≤ slice_index_or kept k 0) (sym same.kept) (parts.kept k)) parts.puts

  pub op_stands : (reply : Reply) → Performs op m board after reply → ServersStand stands shares after (past_given row repeated m p reply)
  op_stands (Refused NoMemory) performs = op_lacks_stands performs
  op_stands (Refused _) performs = absurd (let e = op_refuses _ performs in cc)
  op_stands _ performs = op_stands_after _ tt performs

-- so the board answers a call whose operation it is in each past
pub op_answers : {S : Type 0} (stands : S → List Event → Type 0) (shares : S) → ((h : List Event) (event : Event) → SharesAside event → stands shares h → stands shares (event ∷ h)) →
    (op : List Event → Op) (row : Row) (manner : Manner) (m : ℕ) (board after : BoardView) (reply : Reply) → m < members_of board → SomeServersAdmit stands shares board row manner m → ((h : List Event) → stands shares h → Performs (op h) m board after reply) →
    ((p : Past) → ServersStand stands shares board p → ServersAdmitMember row manner.repeated m board p → IsMadeSo manner m p → IsCallOp (op p.events) row manner.repeated m board p) → row.starts ≡ None →
    ((h : List Event) → manner.repeated ≡ true → goes_on_waiting (op h) ≡ true) → AnswersCall (record { stands = stands; row = row; manner = manner; m = m }) shares shares board after reply
op_answers stands shares aside op row manner m board after reply low (p0, parts0, ready0, made0) performs ops_are none onward =
    let repeated = manner.repeated in
    let there = performs p0.events parts0.shares_are in
    let op0 = ops_are p0 parts0 ready0 made0 in
    record {
      leaves = op_leaves_board (op p0.events) m board after reply there;
      waits = λ again wait. (refl, there.waits wait (onward p0.events again));
      lacks = λ lack. op_lacks stands shares aside (op p0.events) row repeated m board after p0 low parts0 op0 (subst (λ (r : Reply). Performs (op p0.events) m board after r) lack there);
      refuses = λ refusal is. op_refuses stands shares aside (op p0.events) row repeated m board after p0 low parts0 op0 refusal (subst (λ (r : Reply). Performs (op p0.events) m board after r) is there);
      answer = λ p parts ready made. op_gives_reply stands shares aside (op p.events) row repeated m board after p low parts (ops_are p parts ready made) reply (performs p.events parts.shares_are);
      stands_for = λ p parts ready made. op_stands stands shares aside (op p.events) row repeated m board after p low parts (ops_are p parts ready made) reply (performs p.events parts.shares_are);
      keeps = λ wait. subst (λ (o : Option Shape). IfSome o (λ (shape : Shape). share_room shape ≤ kept_by m after)) (sym none) tt;
    }
