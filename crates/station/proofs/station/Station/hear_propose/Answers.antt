use Rattle.std.proofs.Common.{rules, ◌∙◌}
use Rattle.std.proofs.lemmas.List.{get_or_default}
use Rattle.acts.specs.Values.{number}
use Rattle.station.specs.Stations.{read}
use Rattle.station.specs.Stages.{new_stage}
use Rattle.station.proofs.Readings.{heard_propose}
use Rattle.station.proofs.News.{news_propose, none_numbered}
use Rattle.station.proofs.station.Station.hear_propose.Goals as goal

pub returns-clause-record : goal.returns-clause-record
returns-clause-record c =
    let e = c.hear_propose.ensures in
    heard_propose c.args.self.now c.args.stage c.args.sender c.args.value c.index-self-stage.result c.hear_propose.new.self _
    (record { same = search rules; within = search rules }) e.within e.record

pub returns-clause-changed : goal.returns-clause-changed
returns-clause-changed c =
    let s = c.args.self.now in
    let at = get_or_default s.stages c.args.stage c.index-self-stage.result new_stage (search rules) in
    news_propose (read s) _ c.args.sender c.hear_propose.result c.args.stage (number c.args.value) (returns-clause-record c)
    (rw at at c.hear_propose.ensures.changed ∙ none_numbered _)
