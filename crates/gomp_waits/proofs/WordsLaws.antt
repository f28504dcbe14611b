-- Events that keep the rule of words keep their laws.
use Rattle.std.proofs.Common.{◌≡◌, ℕ, true, false, ◌%◌, List, [], ◌∷◌, Option, Some, None, refl, ◌∙◌, sym, inl, inr, arith}
use Rattle.std.specs.Prelude.{◌==◌, nat_le}
use Rattle.std.proofs.lemmas.Bool.{cases_Bool, le-leb, leb-true, leb-false}
use Rattle.gomp_types.specs.declared.limits.TheConstants.{OPEN_SHARES}
use Rattle.gomp_types.proofs.Booleans.{is_equal, same_number}
use Rattle.gomp_events.specs.declared.event.Event.{Event}
use Rattle.gomp_events.specs.declared.event.Event.TheVariants.{Put, Got}
use Rattle.gomp_events.specs.Laws.{Always, Happened}
use Rattle.gomp_events.proofs.Always.{always_so}
use Rattle.gomp_board.specs.Payloads.{newest_put, words_of}
use Rattle.gomp_waits.specs.Words.{is_from, come_late, WordsRule, PutsInShareOnce, GivesPutWords, WordsLaws}

-- a share that is not behind the newest one, which is not from a later share on, is not behind that share
from_this_share : (share later : ℕ) (newest : Option ℕ) → is_from later newest ≡ false → is_from share newest ≡ true → nat_le share later ≡ true
from_this_share share later None before from = absurd (cc)
from_this_share share later (Some newest) before from = le-leb share later (omega (arith, leb-false later newest before, leb-true share newest from))

-- words that were put in a share have others come late for it
put_comes_once : (share n : ℕ) (words : List ℕ) (h : List Event) → Always WordsRule h → Happened (Put share n words) h → come_late share h ≡ true
put_comes_once share n words [] all happened = absurd happened
put_comes_once share n words (Put i m put ∷ earlier) all (inl e) =
    let same : i ≡ share = cc in
    rw (same, same_number (share % OPEN_SHARES)) (le-leb share share (omega arith))
put_comes_once share n words (Put i m put ∷ earlier) all (inr before) =
    let late = put_comes_once share n words earlier all.1 before in
    elim (cases_Bool (i % OPEN_SHARES == share % OPEN_SHARES)) [
      | inl near ↦
          let one : i % OPEN_SHARES ≡ share % OPEN_SHARES = is_equal (i % OPEN_SHARES) (share % OPEN_SHARES) near in
          let first = rw one at all.0 in
          rw near (from_this_share share i _ first late)
      | inr far ↦ rw far late
    ]
put_comes_once share n words (_ ∷ earlier) all (inl e) = absurd (cc)
put_comes_once share n words (_ ∷ earlier) all (inr before) = put_comes_once share n words earlier all.1 before

-- words that lie in a share were put in it
kept_were_put : (share : ℕ) (words : List ℕ) (h : List Event) → words_of share (newest_put (share % OPEN_SHARES) h) ≡ Some words → (n : ℕ) × Happened (Put share n words) h
kept_were_put share words [] e = absurd (cc)
kept_were_put share words (Put i m put ∷ earlier) e =
    elim (cases_Bool (i == share)) [
      | inl one ↦
          let same : i ≡ share = is_equal i share one in
          let found : Some put ≡ Some words = rw (same, same_number (share % OPEN_SHARES), same_number share) at e in
          let its : put ≡ words = cc in
          (m, inl (rw (same, its) refl))
      | inr two ↦
          elim (cases_Bool (i % OPEN_SHARES == share % OPEN_SHARES)) [
            | inl near ↦ absurd (let found : None ≡ Some words = rw (near, two) at e in cc)
            | inr far ↦ let (n, before) = kept_were_put share words earlier (rw far at e) in (n, inr before)
          ]
    ]
kept_were_put share words (_ ∷ earlier) e = let (n, before) = kept_were_put share words earlier e in (n, inr before)

put_is_first : (event : Event) (earlier : List Event) → WordsRule event earlier → Always WordsRule earlier → PutsInShareOnce event earlier
put_is_first (Put share m words) earlier rule all = λ n other before. let late = put_comes_once share n other earlier all before in let both : true ≡ false = sym late ∙ rule in cc
put_is_first _ earlier rule all = tt

gift_was_put : (event : Event) (earlier : List Event) → WordsRule event earlier → Always WordsRule earlier → GivesPutWords event earlier
gift_was_put (Got share m words) earlier rule all = kept_were_put share words earlier rule
gift_was_put _ earlier rule all = tt

pub words_rule_keeps_laws : (h : List Event) → Always WordsRule h → WordsLaws h
words_rule_keeps_laws h all = record {
  puts = always_so WordsRule PutsInShareOnce put_is_first h all;
  gifts = always_so WordsRule GivesPutWords gift_was_put h all;
}
