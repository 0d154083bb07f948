use Rattle.std.proofs.Common.{◌≡◌, ℕ, ◌+◌, ◌*◌, ◌^◌, ◌<◌, Bool, false, length}
use Rattle.sat_form.specs.Satisfaction.{literal_value, IsWithin}
use Rattle.sat_form.specs.Numbers.{value_of}
use Rattle.gate_words.proofs.shifts.number.Given as goal

abbrev pub invariant-loop : goal.invariant-loop
invariant-loop l = record {
  count : length l.bits.items ≡ l.counter;
  within : (n : ℕ) → l.zero.variable < n → IsWithin n l.bits.items;
  is : (x : ℕ → Bool) → literal_value x l.zero ≡ false → value_of l.bits.items x + 2 ^ l.counter * l.rest ≡ l.fn.value;
}
