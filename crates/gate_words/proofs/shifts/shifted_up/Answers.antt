use Rattle.std.proofs.Common.{◌≡◌, ◌+◌, List, [], ◌∷◌, ◌++◌, take, length, sym, ap, ◌∙◌, subst, arith, rules}
use Rattle.std.proofs.lemmas.List.{take_more, length-take-le}
use Rattle.sat_form.specs.Satisfaction.{Literal}
use Rattle.sat_form.specs.Numbers.{value_of}
use Rattle.words.specs.Operators.{left_shift}
use Rattle.gate_bits.specs.Truth.{IsNumber}
use Rattle.gate_bits.proofs.Growing.{GrowsFreely-refl, GrowsFreely-then, IsTruth-kept}
use Rattle.gate_words.proofs.Shifting.{distance_is, distance_fits, Up_none, Up_more}
use Rattle.gate_words.proofs.shifts.shifted_up.Goals as goal

pub stage_up-requires-clause-distance : goal.stage_up-requires-clause-distance
stage_up-requires-clause-distance c =
    distance_fits c.loop-k.k (length c.args.count.now) (length c.args.a.now) (length c.deref.result.now) c.loop-k-test.true c.requires.few c.requires.least (ap (λ (m : List Literal). length m) c.deref.ensures.value ∙ c.loop-k.invariant.is.count)

pub loop-k-init : goal.loop-k-init
loop-k-init c =
    let same : c.in_ok-bits.bits.items ≡ c.args.a.now = search rules in
    record {
      grows = GrowsFreely-refl c.args.cnf.now;
      zero = c.requires.zero;
      is = Up_none c.args.cnf.now c.args.a.now c.in_ok-bits.bits.items same c.requires.a;
    }

pub loop-k-preserved : goal.loop-k-preserved
loop-k-preserved c =
    let k = c.loop-k.k in
    let a : List Literal = c.args.a.now in
    let count : List Literal = c.args.count.now in
    let on : Literal = c.index-count-k.result in
    let bits : List Literal = c.deref.result.now in
    let next : List Literal = c.in_ok-bits-2.bits.items in
    let more : take (k + 1) count ≡ take k count ++ on ∷ [] = take_more count k on c.loop-k-test.true ∙ ap (λ (l : Literal). take k count ++ l ∷ []) (sym {A = Literal} c.index-count-k.is) in
    let so_far = subst (λ (m : List Literal). IsNumber c.loop-k.cnf (length a) m (λ x. left_shift (length a) (value_of a x) (value_of (take k count) x))) (sym c.deref.ensures.value) c.loop-k.invariant.is in
    let step = Up_more c.loop-k.cnf c.stage_up.new.cnf a (take k count) bits next on k _ (length-take-le k count (omega arith)) (distance_is k (omega (arith, c.requires.few))) c.in_ok-bits-2.ensures.grows so_far c.in_ok-bits-2.ensures.is in
    record {
      grows = GrowsFreely-then c.loop-k.invariant.grows c.in_ok-bits-2.ensures.grows;
      zero = IsTruth-kept c.loop-k.invariant.zero c.in_ok-bits-2.ensures.grows;
      is = subst (λ (p : List Literal). IsNumber c.stage_up.new.cnf (length a) next (λ x. left_shift (length a) (value_of a x) (value_of p x))) (sym more) step;
    }
