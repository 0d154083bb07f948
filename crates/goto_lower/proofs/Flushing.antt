-- Code that is put before nodes, and the registers that are left of it.
use Rattle.std.proofs.Common.{◌≡◌, ◌+◌, List, [], ◌∷◌, ◌++◌, length, refl, sym, ap, ◌∙◌, append-nil, append_assoc, length-append}
use Rattle.c_types.specs.declared.integers.IntegerType.{IntegerType}
use Rattle.goto_prog.specs.declared.code.Instruction.{Instruction}
use Rattle.goto_prog.specs.Nodes.{Nodes, plain}
use Rattle.lowered_code.specs.Lowering.{plains}
use Rattle.code_draft.specs.Drafts.{Listed, next, added, flushed}
use Rattle.goto_lower.specs.Statements.{typed}

-- ---- registers alone

pub typed_added : (d new : Listed) (ts : List IntegerType) → new ≡ added d [] ts → new ≡ typed d ts
typed_added d new ts same = same ∙ (λ i. record d { instructions = append-nil d.instructions i; registers = d.registers ++ ts })

pub typed_more : (d e : Listed) (ts us : List IntegerType) → e ≡ typed d ts → typed e us ≡ typed d (ts ++ us)
typed_more d e ts us same = (λ i. typed (same i) us) ∙ (λ i. record d { registers = append_assoc d.registers ts us i })

pub typed_nothing : (d : Listed) → typed d [] ≡ d
typed_nothing d = λ i. record d { registers = append-nil d.registers i }

pub next_typed : (d e : Listed) (ts : List IntegerType) → e ≡ typed d ts → next e ≡ next d + length ts
next_typed d e ts same = ap next same ∙ length-append d.registers ts

-- ---- instructions in front of nodes

pub plains_append : (xs ys : List Instruction) (rest : Nodes) → plains (xs ++ ys) rest ≡ plains xs (plains ys rest)
plains_append [] ys rest = refl
plains_append (x ∷ xs) ys rest = ap (plain x) (plains_append xs ys rest)

pub flushed_draft : (d d1 new : Listed) (xs : List Instruction) (ts : List IntegerType) → d.instructions ≡ [] → d1 ≡ added d xs ts → new ≡ flushed d1 → new ≡ typed d ts
flushed_draft d d1 new xs ts empty same last = last ∙ (λ i. flushed (same i)) ∙ (λ i. record d { instructions = sym empty i; registers = d.registers ++ ts })

pub flushed_code : (d d1 : Listed) (xs : List Instruction) (ts : List IntegerType) (rest now : Nodes) → d.instructions ≡ [] → d1 ≡ added d xs ts → now ≡ plains d1.instructions rest → now ≡ plains xs rest
flushed_code d d1 xs ts rest now empty same last = last ∙ (λ i. plains (same i).instructions rest) ∙ (λ i. plains (empty i ++ xs) rest)
