use Rattle.std.proofs.Common.{◌≡◌, ℕ, suc, ◌+◌, ◌-◌, ◌<◌, true, false, not, List, [], ◌∷◌, map, drop, set, replicate, length, sym, ap, ◌∙◌, subst, arith, length-set}
use Rattle.std.proofs.lemmas.List.{drop-set, drop_all, length-replicate}
use Rattle.std.proofs.Math.Seq.{drop-cons}
use Rattle.sat_form.specs.Satisfaction.{Literal, Form, literal_value, inverse_of, IsWithin}
use Rattle.sat_form.proofs.Truth.{literal_value-inverse_of}
use Rattle.sat_form.proofs.Within.{IsWithin-push}
use Rattle.gate_bits.specs.Truth.{IsTruth}
use Rattle.gate_words.specs.Quotients.{IsDivided, IsStep}
use Rattle.gate_bits.proofs.Growing.{GrowsFreely-refl, GrowsFreely-then, IsTruth-kept, IsWithin-kept}
use Rattle.gate_bits.proofs.Parts.{IsWithin-replicate}
use Rattle.gate_words.proofs.Dividing.{Divided_none, Divided_more, complement_value, IsWithin-set}
use Rattle.gate_bits.proofs.Inverting.{IsWithin-inverses}
use Rattle.gate_words.proofs.quotients.divide.Goals as goal

turned : (f : Form) (off one : Literal) → IsTruth f off (λ x. false) → one ≡ inverse_of off → IsTruth f one (λ x. true)
turned f off one none is = record {
  within = omega (arith, none.within, ap (λ (l : Literal). l.variable) is);
  is = λ x all. ap (literal_value x) is ∙ literal_value-inverse_of x off ∙ ap not (none.is x all);
}

pub loop-i-init : goal.loop-i-init
loop-i-init c =
    let a : List Literal = c.args.a.now in
    let quotient : List Literal = c.in_ok-quotient.quotient.items in
    let filled : quotient ≡ replicate (length a) c.args.zero = c.in_ok-quotient.ensures.items_if_clones_equal (λ y h. h) in
    let width : length quotient ≡ length a = ap (λ (m : List Literal). length m) filled ∙ length-replicate (length a) c.args.zero in
    let none_a : drop (length a) a ≡ [] = drop_all (length a) a (omega arith) in
    let none_q : drop (length a) quotient ≡ [] = drop_all (length a) quotient (omega arith) in
    let none = Divided_none c.args.cnf.now c.args.b.now c.in_ok-rest.rest.items c.args.zero (length a) c.requires.zero (c.in_ok-rest.ensures.items_if_clones_equal (λ y h. h)) c.requires.same_width in
    record {
      grows = GrowsFreely-refl c.args.cnf.now;
      one = turned c.args.cnf.now c.args.zero c.inverse-one.result c.requires.zero c.inverse-one.ensures;
      count = width;
      within = subst (λ (m : List Literal). IsWithin c.args.cnf.now.variables m) (sym filled) (IsWithin-replicate c.args.cnf.now.variables (length a) c.args.zero c.requires.zero.within);
      is = subst (λ (p : List Literal). IsDivided c.args.cnf.now p c.args.b.now (drop (length a) quotient) c.in_ok-rest.rest.items) (sym none_a)
          (subst (λ (q : List Literal). IsDivided c.args.cnf.now [] c.args.b.now q c.in_ok-rest.rest.items) (sym none_q) none);
    }

pub divide_step-requires-clause-complement : goal.divide_step-requires-clause-complement
divide_step-requires-clause-complement c =
    let b : List Literal = c.args.b.now in
    let n = c.loop-i.cnf.variables in
    subst (λ (m : List Literal). IsWithin n m) (sym (c.deref-in-loop-i.ensures.value ∙ c.in_ok-complement.ensures))
    (IsWithin-push n (map inverse_of b) c.inverse-one.result (IsWithin-inverses n b (IsWithin-kept b c.requires.b c.loop-i.invariant.grows)) c.loop-i.invariant.one.within)

pub loop-i-preserved : goal.loop-i-preserved
loop-i-preserved c =
    let j = c.loop-i.i - 1 in
    let a : List Literal = c.args.a.now in
    let b : List Literal = c.args.b.now in
    let quotient : List Literal = c.loop-i.quotient.items in
    let bit : Literal = c.index-a-i.result in
    let fits : Literal = c.in_ok-bit.bit in
    let next : List Literal = c.in_ok-bit.next.items in
    let complement : List Literal = c.deref-in-loop-i.result.now in
    let g = c.divide_step.new.cnf in
    let above : c.loop-i.i ≡ suc j = omega arith in
    let above' : c.loop-i.i ≡ j + 1 = omega arith in
    let in_a : j < length a = omega arith in
    let in_q : j < length quotient = omega arith in
    let on = c.loop-i.invariant.one in
    let more_a : drop j a ≡ bit ∷ drop c.loop-i.i a =
    drop-cons a j bit in_a ∙ (λ k. sym {A = Literal} c.index-a-i.is k ∷ drop (sym {A = ℕ} above k) a) in
    let more_q : drop j (set quotient j fits) ≡ fits ∷ drop c.loop-i.i quotient =
    drop-set quotient j fits in_q ∙ ap (λ (n : ℕ). fits ∷ drop n quotient) (sym {A = ℕ} above') in
    let step = subst (λ (m : List Literal). IsStep g bit m complement fits next) c.deref.ensures.value c.in_ok-bit.ensures.is in
    let divided = Divided_more c.loop-i.cnf g (drop c.loop-i.i a) b (drop c.loop-i.i quotient) c.loop-i.rest.items complement next bit fits c.loop-i.invariant.is c.in_ok-bit.ensures.grows
    (λ x all. complement_value x b complement c.inverse-one.result (c.deref-in-loop-i.ensures.value ∙ c.in_ok-complement.ensures) ((IsTruth-kept on c.in_ok-bit.ensures.grows).is x all)) step in
    record {
      grows = GrowsFreely-then c.loop-i.invariant.grows c.in_ok-bit.ensures.grows;
      one = IsTruth-kept on c.in_ok-bit.ensures.grows;
      count = length-set quotient j fits ∙ c.loop-i.invariant.count;
      within = IsWithin-set g.variables quotient j fits (IsWithin-kept quotient c.loop-i.invariant.within c.in_ok-bit.ensures.grows) c.in_ok-bit.ensures.is.fits_within;
      is = subst (λ (p : List Literal). IsDivided g p b (drop j (set quotient j fits)) next) (sym more_a)
          (subst (λ (q : List Literal). IsDivided g (bit ∷ drop c.loop-i.i a) b q next) (sym more_q) divided);
    }
