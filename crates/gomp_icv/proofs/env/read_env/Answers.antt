use Rattle.std.proofs.Common.{◌∙◌, ◌+◌, [], List, ℕ, drop, get_or, sym, Bor}
use Rattle.std.specs.Prelude.{map}
use Rattle.gomp_icv.specs.EnvWords.{read_after}
use Rattle.gomp_icv.proofs.EnvWordLemmas.{word_here, all_words, one_ignored}
use Rattle.gomp_icv.proofs.env.read_env.Goals as goal
use Rattle.gomp_icv.proofs.env.read_env.Goals.{in-Some, in-None+in_ok-new-in-None+in_ok-push-in-None}

pub loop-name-preserved : goal.loop-name-preserved
loop-name-preserved c =
    let words = c.args.words.now in
    let i = c.loop-name.name-index in
    let none : Bor (List ℕ) × Bor (List ℕ) = (record { ref_ptr = (0, 0); now = [] }, record { ref_ptr = (0, 0); now = [] }) in
    let here = word_here (λ word. (word.0.now, word.1.now)) words i none c.loop-name.icv c.as_bytes.result.now c.as_bytes-in-loop-name.result.now c.setting_of.result c.loop-name-test.true c.as_bytes.ensures.value c.as_bytes-in-loop-name.ensures.value c.setting_of.ensures.value in
    let all = rw here at c.loop-name.invariant in
    elim c.match-setting_of.branch [
      | in-Some w ↦ rw (w.icv-is, w.ignored-is, w.with-icv.ensures) (rw w.in-Some.is at all)
      | in-None+in_ok-new-in-None+in_ok-push-in-None w ↦ rw (w.icv-is, w.ignored-is, w.in_ok-push-in-None.ensures.items, w.in_ok-new-in-None.ensures.name) (sym (one_ignored c.loop-name.ignored.items (get_or words i none).0.now c.loop-name.icv (read_after (map (λ word. (word.0.now, word.1.now)) (drop (i + 1) words)))) ∙ rw w.in-None.is at all)
    ]

pub returns-clause-value : goal.returns-clause-value
returns-clause-value c = sym (all_words (λ word. (word.0.now, word.1.now)) c.args.words.now c.loop-name.name-index c.loop-name.icv c.loop-name.ignored.items c.loop-name-test.false) ∙ c.loop-name.invariant
