use Rattle.std.proofs.Common.{rules, ◌<◌, ◌^◌, map, length}
use Rattle.std.proofs.lemmas.List.{length-map}
use Rattle.std.proofs.lemmas.Result.{IfErr-weaker, IfOk-weaker}
use Rattle.gomp_command.specs.CommandLine.{asked_by, asked_of, faults_of}
use Rattle.gomp_command.proofs.CommandLemmas.{words_ask}
use Rattle.gomp_serve.proofs.EndLemmas.{plain_words_serve, reported_ends, request_asks_run, request_serves}
use Rattle.gomp_serve.proofs.serve.serve.Goals as goal

pub returns-in-Ok-clause-ends : goal.returns-in-Ok-clause-ends
returns-in-Ok-clause-ends g c =
    let words = map g.T.AsStr.text c.args.words.now in
    IfOk-weaker c.serve_with_settings.result _ _
    (λ status ends. request_serves (faults_of words) (asked_of words) _ (asked_by c.request_of-asked.result) (g.R.Read.remaining c.args.reader) _ _ status c.in-Ok.ensures.faults c.in-Ok.ensures.asked c.request_of-asked.ensures ends)
    c.serve_with_settings.ensures.ends

pub returns-in-Ok-clause-service : goal.returns-in-Ok-clause-service
returns-in-Ok-clause-service g c =
    let words = map g.T.AsStr.text c.args.words.now in
    let size : length c.args.words.now < 2 ^ 64 = search rules in
    IfOk-weaker c.serve_with_settings.result _ _
    (λ status ends. λ service name settings is plain. plain_words_serve service name settings words (g.R.Read.remaining c.args.reader) _ _ status is plain (rw (length-map c.args.words.now g.T.AsStr.text) size)
    (request_serves (faults_of words) (asked_of words) _ (asked_by c.request_of-asked.result) (g.R.Read.remaining c.args.reader) _ _ status c.in-Ok.ensures.faults c.in-Ok.ensures.asked c.request_of-asked.ensures ends))
    c.serve_with_settings.ensures.ends

pub returns-in-Ok-clause-run : goal.returns-in-Ok-clause-run
returns-in-Ok-clause-run g c =
    let words = map g.T.AsStr.text c.args.words.now in
    IfErr-weaker c.serve_with_settings.result _ _
    (λ request asks. request_asks_run (faults_of words) (asked_of words) _ (asked_by c.request_of-asked.result) request.icv request.ignored.items c.in-Ok.ensures.faults c.in-Ok.ensures.asked c.request_of-asked.ensures asks)
    c.serve_with_settings.ensures.run

pub returns-in-Err-clause-ends : goal.returns-in-Err-clause-ends
returns-in-Err-clause-ends g c =
    let words = map g.T.AsStr.text c.args.words.now in
    reported_ends c.in-Err.error (faults_of words) (asked_of words) (g.R.Read.remaining c.args.reader) _ _ c.report_error.result (words_ask words) c.in-Err.ensures.faults c.report_error.ensures

pub returns-in-Err-clause-service : goal.returns-in-Err-clause-service
returns-in-Err-clause-service g c = λ service name settings is plain.
    let words = map g.T.AsStr.text c.args.words.now in
    let size : length c.args.words.now < 2 ^ 64 = search rules in
    plain_words_serve service name settings words (g.R.Read.remaining c.args.reader) _ _ c.report_error.result is plain (rw (length-map c.args.words.now g.T.AsStr.text) size)
    (reported_ends c.in-Err.error (faults_of words) (asked_of words) (g.R.Read.remaining c.args.reader) _ _ c.report_error.result (words_ask words) c.in-Err.ensures.faults c.report_error.ensures)
