-- A talk as it is served, and how it ends.
use Rattle.std.proofs.Common.{◌≡◌, ◌≢◌, ◌++◌, ◌∷◌, ◌∙◌, ℕ, List, [], false, Option, subst, Bool, true}
use Rattle.std.specs.Prelude.{IfSome}
use Rattle.std.specs.Io.BufRead.{take_through, DropsThrough}
use Rattle.std.specs.Io.KnownBytes.{Appends, Keeps, IsAtEnd}
use Rattle.std.specs.declared.io.ErrorKind.{ErrorKind}
use Rattle.std.specs.declared.io.ErrorKind.TheVariants.{OutOfMemory}
use Rattle.gomp_events.specs.declared.event.Event.{Event}
use Rattle.gomp_icv.specs.Variables.{Variables}
use Rattle.gomp_text.specs.Words.{cut_at}
use Rattle.gomp_service.specs.Reading.{unread_as}
use Rattle.gomp_service.specs.Writing.{AppendsPrefix, IsWritten}
use Rattle.gomp_service.proofs.Writes.{appended_and_kept, prefix_behind, whole_is_prefix, appended_twice}
use Rattle.gomp_live.specs.Talk.{Talked}
use Rattle.gomp_live.specs.Stands.{TalkView, TalkStands}
use Rattle.gomp_live.specs.Serving.{LinesAnswered, SomeAnswered, AnswersCut, ServesLive}
use Rattle.gomp_live.proofs.InputLemmas.{InputLeft, input_begins, input_ended, input_stays, input_goes_on, appends_nothing}

-- the lines so far were answered, and nothing else was written: of the input this is left, and this is what the writer holds
pub record GoesOn {S : Type 0} (stands : S → List Event → Type 0) (members : S → ℕ) (icv : Variables) (input left before after : Option (List ℕ)) (talk : TalkView S) : Type 0 where
  pub lines : List (List ℕ)
  pub said : List ℕ
  pub icv_is : talk.icv ≡ icv
  pub stands_for : TalkStands stands members talk lines said
  pub read : IfSome input (InputLeft left lines)
  pub written : Appends before after said

pub talk_begins :
    {S : Type 0} (stands : S → List Event → Type 0) (members : S → ℕ) (icv : Variables) (input before : Option (List ℕ)) (talk : TalkView S)
    → talk.icv ≡ icv → TalkStands stands members talk [] [] → GoesOn stands members icv input input before before talk
talk_begins stands members icv input before talk icv_is is = record {
  lines = [];
  said = [];
  icv_is = icv_is;
  stands_for = is;
  read = input_begins input;
  written = appends_nothing before;
}

-- what was talked, by the variables that the talk began with
talked_so : {S : Type 0} {stands : S → List Event → Type 0} {members : S → ℕ} {icv : Variables} {input left before after : Option (List ℕ)} {talk : TalkView S} (now : GoesOn stands members icv input left before after talk) → Talked icv now.lines now.said now.stands_for.made
talked_so now =
    subst (λ (v : Variables). Talked v now.lines now.said now.stands_for.made) now.icv_is now.stands_for.talked

pub talk_ends :
    {S : Type 0} {stands : S → List Event → Type 0} {members : S → ℕ} {icv : Variables} {input left before after : Option (List ℕ)} {talk : TalkView S}
    → GoesOn stands members icv input left before after talk → IsAtEnd left → LinesAnswered icv input before after []
talk_ends {input = input} {left = left} now end = record {
  lines = now.lines;
  said = now.said;
  made = now.stands_for.made;
  read = input_ended input left now.lines now.read end;
  talked = talked_so now;
  written = now.written;
}

pub talk_breaks :
    {S : Type 0} {stands : S → List Event → Type 0} {members : S → ℕ} {icv : Variables} {input left before after : Option (List ℕ)} {talk : TalkView S}
    → GoesOn stands members icv input left before after talk → SomeAnswered icv input before after
talk_breaks {input = input} {left = left} now =
    let stays = input_stays input left now.lines now.read in (
      stays.0,
      record {
        lines = now.lines;
        said = now.said;
        made = now.stands_for.made;
        read = stays.1;
        talked = talked_so now;
        written = now.written;
      },
    )

pub line_served :
    {S : Type 0} {stands : S → List Event → Type 0} {members : S → ℕ} {icv : Variables} {input left next before between after : Option (List ℕ)} {talk then : TalkView S} (text answer : List ℕ)
    → (now : GoesOn stands members icv input left before between talk) → text ≢ []
    → IfSome left (λ xs. text ≡ take_through 10 xs) → DropsThrough left next 10
    → then.icv ≡ talk.icv
    → TalkStands stands members then ((cut_at 10 text).0 ∷ now.lines) (now.said ++ answer)
    → Appends between after answer
    → GoesOn stands members icv input next before after then
line_served {input = input} {left = left} {next = next} {before = before} {between = between} {after = after} text answer now some taken drops kept is more = record {
  lines = (cut_at 10 text).0 ∷ now.lines;
  said = now.said ++ answer;
  icv_is = kept ∙ now.icv_is;
  stands_for = is;
  read = input_goes_on input left next now.lines text some now.read taken drops;
  written = appended_twice before between after now.said answer now.written more;
}

-- an answer that was written whole, and then flushed or not
pub flushed_answer : (before between after : Option (List ℕ)) (answer : List ℕ) (flushed : Bool) → Appends before between answer → Keeps between after → IsWritten before after answer flushed
flushed_answer before between after answer true written kept = appended_and_kept before between after answer written kept
flushed_answer before between after answer false written kept = whole_is_prefix before after answer (appended_and_kept before between after answer written kept)

-- its answer could not be written whole
pub line_cut :
    {S : Type 0} {stands : S → List Event → Type 0} {members : S → ℕ} {icv : Variables} {input left before between after : Option (List ℕ)} {talk then : TalkView S} (next : Option (List ℕ)) (text answer : List ℕ)
    → (now : GoesOn stands members icv input left before between talk) → text ≢ []
    → IfSome left (λ xs. text ≡ take_through 10 xs) → DropsThrough left next 10
    → then.icv ≡ talk.icv
    → TalkStands stands members then ((cut_at 10 text).0 ∷ now.lines) (now.said ++ answer)
    → AppendsPrefix between after answer
    → AnswersCut icv input before after
line_cut {icv = icv} {input = input} {left = left} {before = before} {between = between} {after = after} next text answer now some taken drops kept is more =
    let lines = (cut_at 10 text).0 ∷ now.lines in
    let stays = input_stays input next lines (input_goes_on input left next now.lines text some now.read taken drops) in
    record {
      left = stays.0;
      lines = lines;
      said = now.said ++ answer;
      made = is.made;
      read = stays.1;
      talked = subst (λ (v : Variables). Talked v lines (now.said ++ answer) is.made) (kept ∙ now.icv_is) is.talked;
      written = prefix_behind before between after now.said answer now.written more;
    }

-- a read that fails ends it there
pub talk_unread : (icv : Variables) (remaining before after : Option (List ℕ)) (fault : ErrorKind) → SomeAnswered icv remaining before after → ServesLive icv remaining before after (unread_as fault)
talk_unread icv remaining before after OutOfMemory broken = broken
talk_unread icv remaining before after _ broken = broken
