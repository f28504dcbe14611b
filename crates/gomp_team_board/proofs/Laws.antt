-- A call whose words are not refused keeps the rule of words, and a history that keeps the rules keeps the laws.
use Rattle.std.proofs.Common.{◌≡◌, ◌≢◌, ℕ, Bool, true, false, List, [], ◌∷◌, arith, ap, ◌∙◌, Option, Some, None, refl, sym, ◌⊎◌, inl, inr, subst, reverse}
use Rattle.gomp_types.specs.declared.refusal.Refusal.{Refusal}
use Rattle.gomp_types.specs.declared.refusal.Refusal.TheVariants.{NotInside, Mismatch}
use Rattle.gomp_types.specs.RefusalTexts.{number_of}
use Rattle.gomp_types.specs.Least.{lesser, least}
use Rattle.gomp_types.proofs.LeastTests.{lesser_low}
use Rattle.gomp_types.specs.declared.reply.Reply.{Reply}
use Rattle.gomp_events.specs.declared.event.Event.{Event}
use Rattle.gomp_events.specs.Laws.{Always}
use Rattle.gomp_board.specs.declared.op.Op.{Op}
use Rattle.gomp_board.specs.declared.op.Op.TheVariants.{Put, Got}
use Rattle.gomp_board.specs.Boards.{BoardView, Stands}
use Rattle.gomp_board.specs.KeptLaws.{KeepsLaws}
use Rattle.gomp_board.specs.Ops.{op_after}
use Rattle.gomp_waits.specs.Waits.{WaitBoardView, is_waiting, asked_refusal, room_terms, open_wait_refusal, PerformsOrWaits}
use Rattle.gomp_waits.specs.Words.{payload_refusal, WordsRule}
use Rattle.gomp_waits.proofs.WordsKeep.{operation_keeps_words_rule, stored_keep_words_rule}
use Rattle.gomp_waits.proofs.WordsLaws.{words_rule_keeps_laws}
use Rattle.gomp_team_board.specs.Locked.{RefusesWords, KeptLaws}
use Rattle.gomp_team_board.specs.Parts.{PartView, part_after}
use Rattle.gomp_team_board.proofs.Moved.{refusal_moves_nothing}

pub found_or_none : (one : Option Refusal) → (one ≡ None) ⊎ ((refusal : Refusal) × (one ≡ Some refusal))
found_or_none None = inl refl
found_or_none (Some refusal) = inr (refusal, refl)

-- the stored events keep the rule of words, whatever the operation is answered
pub words_stay : (op : Op) (m : ℕ) (view after : WaitBoardView) (reply : Reply)
    → Stands view.board (reverse view.board.history) → payload_refusal op (reverse view.board.history) ≡ None → PerformsOrWaits op m view after reply
    → Always WordsRule (reverse view.board.history) → Always WordsRule (reverse after.board.history)
words_stay op m view after reply known fine performs words =
    let h = reverse view.board.history in
    elim (found_or_none (open_wait_refusal (is_waiting m view) op)) [
      | inl none ↦ subst (λ (es : List Event). Always WordsRule es) ((performs.performs none).stands h known).history (stored_keep_words_rule (op_after m op reply h) (operation_keeps_words_rule m op h reply fine words))
      | inr at ↦ subst (λ (b : BoardView). Always WordsRule (reverse b.history)) (sym (performs.stays at.0 at.1)) words
    ]

pub rules_keep_laws : (members : ℕ) (h : List Event) → KeepsLaws members h → Always WordsRule h → KeptLaws members h
rules_keep_laws members h laws words = record { board = laws; words = words_rule_keeps_laws h words }

-- Words that are refused

refused_by_one_test : (late : Bool) (refusal : Refusal) → least ((late, NotInside) ∷ []) ≡ Some refusal → refusal ≡ NotInside
refused_by_one_test true refusal e = cc
refused_by_one_test false refusal e = absurd (cc)

-- they are refused as NotInside
refused_as_not_inside : (op : Op) (h : List Event) (refusal : Refusal) → payload_refusal op h ≡ Some refusal → refusal ≡ NotInside
refused_as_not_inside (Put share words) h refusal e = refused_by_one_test _ refusal e
refused_as_not_inside (Got share words) h refusal e = refused_by_one_test _ refusal e
refused_as_not_inside _ h refusal e = absurd (cc)

-- and move no part, whichever refusal is the least
pub refused_words_move_nothing : (op : Op) (m : ℕ) (view after : WaitBoardView) (h : List Event) (reply : Reply) (refusal : Refusal) (part : PartView)
    → payload_refusal op h ≡ Some refusal → RefusesWords op m view after h reply → part_after op reply part ≡ part
refused_words_move_nothing op m view after h reply refusal part is refuses =
    let asked = asked_refusal (room_terms m view.board) m (is_waiting m view) op h in
    let least_of = ap (λ (one : Option Refusal). lesser one asked) (sym is) ∙ refuses.least in
    let low = lesser_low refusal refuses.found asked least_of in
    let inside = ap number_of (refused_as_not_inside op h refusal is) in
    let differs : refuses.found ≢ Mismatch = λ same. (let most = ap number_of same in absurd (omega (arith, low, inside, most))) in
    rw refuses.answer (refusal_moves_nothing op refuses.found part differs)
