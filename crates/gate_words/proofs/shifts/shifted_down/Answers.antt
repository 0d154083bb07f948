use Rattle.std.proofs.Common.{◌≡◌, ◌+◌, List, [], ◌∷◌, ◌++◌, take, length, sym, ap, ◌∙◌, subst, arith}
use Rattle.std.proofs.lemmas.List.{take_more, length-take-le}
use Rattle.sat_form.specs.Satisfaction.{Literal}
use Rattle.sat_form.specs.Numbers.{value_of}
use Rattle.gate_words.specs.Shifts.{IsShiftedDown}
use Rattle.gate_bits.proofs.Growing.{GrowsFreely-then}
use Rattle.gate_words.proofs.Shifting.{distance_is, distance_fits, Down_more}
use Rattle.gate_words.proofs.shifts.shifted_down.Goals as goal

pub stage_down-requires-clause-distance : goal.stage_down-requires-clause-distance
stage_down-requires-clause-distance c =
    distance_fits c.loop-k.k (length c.args.count.now) (length c.args.a.now) (length c.deref.result.now) c.loop-k-test.true c.requires.few c.requires.least (ap (λ (m : List Literal). length m) c.deref.ensures.value ∙ c.loop-k.invariant.is.width)

pub loop-k-preserved : goal.loop-k-preserved
loop-k-preserved c =
    let k = c.loop-k.k in
    let a : List Literal = c.args.a.now in
    let count : List Literal = c.args.count.now in
    let on : Literal = c.index-count-k.result in
    let bits : List Literal = c.deref.result.now in
    let next : List Literal = c.in_ok-bits-2.bits.items in
    let more : take (k + 1) count ≡ take k count ++ on ∷ [] = take_more count k on c.loop-k-test.true ∙ ap (λ (l : Literal). take k count ++ l ∷ []) (sym {A = Literal} c.index-count-k.is) in
    let so_far = subst (λ (m : List Literal). IsShiftedDown c.loop-k.cnf a c.args.fill m (λ x. value_of (take k count) x)) (sym c.deref.ensures.value) c.loop-k.invariant.is in
    let step = Down_more c.loop-k.cnf c.stage_down.new.cnf a (take k count) bits next on c.args.fill k _ (length-take-le k count (omega arith)) (distance_is k (omega (arith, c.requires.few))) c.in_ok-bits-2.ensures.grows so_far c.in_ok-bits-2.ensures.is in
    record {
      grows = GrowsFreely-then c.loop-k.invariant.grows c.in_ok-bits-2.ensures.grows;
      is = subst (λ (p : List Literal). IsShiftedDown c.stage_down.new.cnf a c.args.fill next (λ x. value_of p x)) (sym more) step;
    }
