use Rattle.std.proofs.Common.{◌≡◌, ◌≢◌, ℕ, true, sym, ap, ◌∙◌, ◌*◌, refl, subst}
use Rattle.agreement.specs.Sets.{Set}
use Rattle.rig.specs.Settings.{among}
use Rattle.agreement.specs.Station.{Setting, is_own, size, stages}
use Rattle.rig.specs.Rigs.{setting}
use Rattle.rig.specs.declared.table.StationTable.{StationTable}
use Rattle.rig.specs.Tables.{station_in, Receives}
use Rattle.rig.proofs.Posting.{same_setting}
use Rattle.rig.proofs.Turning.{heard}
use Rattle.rig.proofs.rig.Rig.deliver.Goals as goal

pub invariant_of-self-clause-posted_is : goal.invariant_of-self-clause-posted_is
invariant_of-self-clause-posted_is g c =
    let r = c.take.new.self in
    let n = (g.F.FaultRule.families r.rule).n in
    r.posted_is ∙ ap (λ (x : ℕ). n * x)
    (sym (heard n (4 * r.setup.rounds.count) (among c.own-own.result) c.in_ok-message.message r.stations c.deliver-changed.new.self
    c.deliver-changed.ensures.record))

pub returns-clause-step : goal.returns-clause-step
returns-clause-step g c =
    let r = c.args.self.now in
    let q = c.take.new.self in
    let m = c.in_ok-message.message in
    let t = c.in_ok-message.ensures.taken in
    let d = c.deliver-changed in
    let T' = d.new.self in
    let own = subst (λ (X : Set). Receives X (size (setting q).rules) (stages (setting q).rules) m q.stations T')
    c.own-own.ensures d.ensures.record in
    let same = subst (λ (G : Setting). Receives (is_own (setting r)) (size G.rules) (stages G.rules) m q.stations T')
    (same_setting r q t.kept) own in (
      c.args.hint,
      refl,
      record {
        exits = t.exits;
        stations = subst (λ (S : StationTable).
            Receives (is_own (setting r)) (size (setting r).rules) (stages (setting r).rules) m S T') t.stations same;
        changed = subst (λ (S : StationTable). d.result ≡ true → station_in T' m.addressee ≢ station_in S m.addressee) t.stations
            d.ensures.changed;
        unchanged = λ e. ap (λ (S : StationTable). station_in S m.addressee) (d.ensures.unchanged e ∙ t.stations);
        last = refl;
        counts = (t.posted, t.missing);
      },
    )
