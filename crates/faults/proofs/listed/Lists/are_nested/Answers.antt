use Rattle.std.proofs.Common.{◌≡◌, true, Bool, rules, tests, refl}
use Rattle.std.specs.List.{list_all}
use Rattle.std.proofs.lemmas.Iterator.{YieldsList-from_slice}
use Rattle.std.proofs.lemmas.Iterator.Search.{all_from_yields_List}
use Rattle.std.proofs.lemmas.Bool.Decides.{Decides-by_and}
use Rattle.stations.specs.Members.{members}
use Rattle.stations.specs.declared.StationSet.{StationSet}
use Rattle.faults.specs.Rules.{within}
use Rattle.faults.proofs.listed.Lists.are_nested.Goals as goal

pub returns : goal.returns
returns c =
    let s = c.args.self.now in
    let test : StationSet → Bool = λ x. within s.size.n s.wide.now (members x) in
    let e = all_from_yields_List test _ _ c.all.result c.all.ensures.ran (YieldsList-from_slice s.narrow.now (cc)) (λ x b q k. search (rules, tests)) in
    let d = Decides-by_and test (λ x. test x ≡ true) (list_all test) (λ x. (λ t. t, λ t. t)) refl (λ _ _. refl) s.narrow.now in
    rw e (λ t. record { each = d.0 t }, λ m. d.1 m.each)
