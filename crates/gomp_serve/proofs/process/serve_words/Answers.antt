use Rattle.std.proofs.Common.{◌≡◌, ◌∙◌, ℕ, Ok, length, map, refl, ap, arith}
use Rattle.std.specs.Prelude.{string_bytes}
use Rattle.std.specs.Vec.Iter.{into_iter_items, into_iter_len}
use Rattle.std.proofs.lemmas.Iterator.{items_from_collect}
use Rattle.std.proofs.lemmas.Iterator.Adapters.{YieldsList-from_vec}
use Rattle.gomp_command.specs.CommandLine.{asked_of, faults_of}
use Rattle.gomp_command.proofs.CommandLemmas.{words_ask}
use Rattle.gomp_serve.specs.Process.{texts_of}
use Rattle.gomp_serve.proofs.EndLemmas.{memory_ends, request_runs}
use Rattle.gomp_serve.proofs.NumberLemmas.{words_number}
use Rattle.gomp_serve.proofs.process.serve_words.Goals as goal

pub returns-in-Err-clause-ends : goal.returns-in-Err-clause-ends
returns-in-Err-clause-ends g c =
    rw c.no_memory.ensures (memory_ends (faults_of (texts_of c.args.words)) (asked_of (texts_of c.args.words)) (g.R.Read.remaining c.args.reader) _ _ (words_ask (texts_of c.args.words)) refl)

pub returns-in-Ok-serve-clause-ends : goal.returns-in-Ok-serve-clause-ends
returns-in-Ok-serve-clause-ends g c =
    let size : into_iter_len c.args.words ≡ length (into_iter_items c.args.words) = let ok = c.args.words.rest.ok in omega arith in
    let same : c.in-Ok.words.items ≡ into_iter_items c.args.words = items_from_collect {E = ℕ} (Ok c.in-Ok.words) c.in-Ok.ensures.ran (YieldsList-from_vec (into_iter_items c.args.words) refl size) in
    let words : map string_bytes c.as_slice.result.now ≡ texts_of c.args.words = ap (map string_bytes) (c.as_slice.ensures.value ∙ same) in
    rw words at c.in-Ok-serve.ensures.ends

pub returns-in-Ok-serve-clause-number : goal.returns-in-Ok-serve-clause-number
returns-in-Ok-serve-clause-number g c =
    let words = map string_bytes c.as_slice.result.now in
    words_number (faults_of words) (asked_of words) (g.R.Read.remaining c.args.reader) (g.W.Write.contents c.args.writer.now) (g.W.Write.contents c.serve.new.writer) c.in-Ok-serve.status c.in-Ok-serve.ensures.ends

pub returns-clause-ends : goal.returns-clause-ends
returns-clause-ends g c =
    let size : into_iter_len c.args.words ≡ length (into_iter_items c.args.words) = let ok = c.args.words.rest.ok in omega arith in
    let same : c.in-Ok.words.items ≡ into_iter_items c.args.words = items_from_collect {E = ℕ} (Ok c.in-Ok.words) c.in-Ok.ensures.ran (YieldsList-from_vec (into_iter_items c.args.words) refl size) in
    let words : map string_bytes c.as_slice.result.now ≡ texts_of c.args.words = ap (map string_bytes) (c.as_slice.ensures.value ∙ same) in
    let request = c.in-Err-serve.request in
    request_runs (faults_of (texts_of c.args.words)) (asked_of (texts_of c.args.words)) request.icv request.ignored.items (g.R.Read.remaining c.args.reader) (g.R.Read.remaining request.reader)
    (g.W.Write.contents c.args.writer.now) (g.W.Write.contents c.serve.new.writer) (g.W.Write.contents c.serve_request.new.writer) c.serve_request.result
    (rw words at c.in-Err-serve.ensures.run) c.in-Err-serve.ensures.unread c.in-Err-serve.ensures.unwritten c.serve_request.ensures

pub returns-clause-number : goal.returns-clause-number
returns-clause-number g c =
    words_number (faults_of (texts_of c.args.words)) (asked_of (texts_of c.args.words)) (g.R.Read.remaining c.args.reader) (g.W.Write.contents c.args.writer.now) (g.W.Write.contents c.serve_request.new.writer) c.serve_request.result (returns-clause-ends g c)
