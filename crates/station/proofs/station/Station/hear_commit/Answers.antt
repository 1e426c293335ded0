use Rattle.std.proofs.Common.{rules, arith}
use Rattle.agreement.specs.Station.{bit}
use Rattle.station.specs.Stations.{read}
use Rattle.station.proofs.Readings.{inserted, heard_commit, commit_is_new}
use Rattle.station.proofs.News.{news_commit}
use Rattle.station.proofs.station.Station.hear_commit.Goals as goal

pub returns-clause-record : goal.returns-clause-record
returns-clause-record c =
    let e = inserted _ _ c.args.sender (omega (arith, c.requires)) c.insert.ensures.members in
    heard_commit c.args.self.now _ (bit c.args.bit) c.args.sender c.index-self-bit.result c.insert.new.self _ (search rules)
    (search rules) (search rules) e

pub returns-clause-changed : goal.returns-clause-changed
returns-clause-changed c =
    let s = c.args.self.now in
    let n = bit c.args.bit in
    news_commit (read s) _ c.args.sender c.insert.result n (returns-clause-record c)
    (commit_is_new s _ n c.args.sender c.index-self-bit.result c.insert.result c.insert.ensures.is_new (omega (arith, c.requires))
    (search rules) (search rules))
