use Rattle.std.proofs.Common.{◌≡◌, Some, sym, ◌∙◌}
use Rattle.gomp_types.specs.declared.reply.Reply.TheVariants.{Copied, Refused}
use Rattle.gomp_team_calls.specs.Arrivals.{IsAccepted}
use Rattle.gomp_seat_team.proofs.starts.copy_words.Goals as goal

pub returns-in-Copied-clause-takes : goal.returns-in-Copied-clause-takes
returns-in-Copied-clause-takes g c = λ accepted.
    let noted : IsAccepted c.note_words.result = λ refusal is. (let no : Copied c.in-Copied.words ≡ Refused refusal = sym c.in-Copied.is ∙ is in cc) in
    let given = c.note_words.ensures.given noted in
    record {
      words = Some c.in-Some.words;
      has_words = rw (c.share_of-share.ensures, c.in-Some.is) at c.words_of.ensures;
      cancelled = c.is_cancelled-cancelled.result;
      is_cancelled = λ k stk. sym (c.is_cancelled-cancelled.ensures.value k stk);
      gives = (sym c.in-Copied.is ∙ given.0, rw (c.share_of-share.ensures, c.member.ensures) at given.1, c.leave_waiting.ensures.leaves);
    }

pub returns-in-Refused-clause-cause : goal.returns-in-Refused-clause-cause
returns-in-Refused-clause-cause g c = λ refusal is. record {
  waits = c.requires.waits;
  words = c.in-Some.words;
  board = c.args.board.now;
  left = c.note_words.new.board;
  known = rw c.history.ensures.value at c.history.ensures.known;
  has_words = rw (c.share_of-share.ensures, c.in-Some.is) at c.words_of.ensures;
  answer = rw (c.share_of-share.ensures, c.member.ensures) at (c.note_words.ensures.refused c.in-Refused.refusal c.in-Refused.is);
}
