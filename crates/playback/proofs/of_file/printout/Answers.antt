use Rattle.std.proofs.Common.{inl, rules}
use Rattle.std.proofs.lemmas.Result.{IfOk-weaker}
use Rattle.runfile.specs.Files.{Says}
use Rattle.playback.specs.Files.{PrintsSaid, PrintsFile}
use Rattle.playback.proofs.of_file.printout.Goals as goal

pub returns-in-Ok : goal.returns-in-Ok
returns-in-Ok c =
    let file = c.args.file.now in
    let said : Says file c.in-Ok.run' = search rules in
    IfOk-weaker c.play_file.result (λ text. PrintsSaid c.in-Ok.run' text.items) (λ text. PrintsFile file text.items)
    (λ text p. inl (c.in-Ok.run', said, p)) c.play_file.ensures
