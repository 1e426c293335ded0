use Rattle.std.proofs.Common.{rules}
use Rattle.std.proofs.lemmas.List.{get_or_default}
use Rattle.acts.specs.Values.{number}
use Rattle.station.specs.Stations.{read}
use Rattle.station.specs.Stages.{new_stage}
use Rattle.station.proofs.Readings.{heard_prepare}
use Rattle.station.proofs.News.{news_prepare}
use Rattle.station.proofs.station.Station.hear_prepare.Goals as goal

pub returns-clause-record : goal.returns-clause-record
returns-clause-record c =
    heard_prepare c.args.self.now c.args.stage (number c.args.value) c.args.sender c.index-self-stage.result c.hear_prepare.new.self _
    (record { same = search rules; within = search rules }) c.hear_prepare.ensures.record

pub returns-clause-changed : goal.returns-clause-changed
returns-clause-changed c =
    let s = c.args.self.now in
    let at = get_or_default s.stages c.args.stage c.index-self-stage.result new_stage (search rules) in
    news_prepare (read s) _ c.args.sender c.hear_prepare.result c.args.stage (number c.args.value) (returns-clause-record c)
    (rw at at c.hear_prepare.ensures.changed)
