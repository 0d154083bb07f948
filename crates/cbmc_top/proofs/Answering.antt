-- From a finding on the bytes that were read to an answer to the command.
use Rattle.std.proofs.Common.{◌≡◌, inl, inr, ℕ, ◌≤◌, ◌<◌, true, List, [], length, take, Option, Some, None, Result, Ok, Err, sym, refl, ap, ◌∙◌, subst, arith}
use Rattle.std.proofs.lemmas.List.{take_all, length-take}
use Rattle.std.specs.Prelude.{IfSome, IfOk}
use Rattle.std.proofs.lemmas.Bool.Decides.{nat_tests}
use Rattle.options.specs.Ranges.{is_generated}
use Rattle.options.specs.Command.{Asked, IsCommand}
use Rattle.generator.specs.Program.{generated_text}
use Rattle.generator.proofs.Sizes.{few_bytes}
use Rattle.run_search.specs.Answers.{Answer, usage, read_fault, limited, refused, successful, failed, used_up, listed}
use Rattle.cbmc_top.specs.Answers.{Decides, Allows, Answered, IsAnswerTo, IsReadFrom, IsReportOn, Means, Reported, status_of, text_of, spent_of, usage_text}
use Rattle.cbmc_top.specs.Calls.{WasRead}
use Rattle.report.specs.Report.{IsHead}
use Rattle.cbmc_top.specs.Command.{Purpose, head_asked, purpose_of, file_read, read_where, bytes_told, told_where, given_where, WasGiven}
use Rattle.cbmc_top.specs.Reports.{IsReported}
use Rattle.run_search.specs.declared.used.Used.{Used}
use Rattle.cbmc_top.specs.Verdicts.{answer_of}
use Rattle.cbmc_top.specs.declared.finding.Finding.{Finding}
use Rattle.cbmc_top.specs.declared.finding.Finding.TheVariants as findings

small_whole : (b bytes : List ℕ) → bytes ≡ take 1048577 b → length bytes ≤ 1048576 → bytes ≡ b
small_whole b bytes e few = e ∙ take_all 1048577 b (omega (arith, ap length e, length-take 1048577 b))

long_whole : (b bytes : List ℕ) → bytes ≡ take 1048577 b → 1048576 < length bytes → 1048576 < length b
long_whole b bytes e long = omega (arith, ap length e, length-take 1048577 b)

decides_whole : (purpose : Purpose) (b bytes : List ℕ) (a : Answer) → bytes ≡ take 1048577 b → Decides purpose bytes a → Decides purpose b a
decides_whole purpose b bytes a e (inl x) = inl (long_whole b bytes e x.0, x.1)
decides_whole purpose b bytes a e (inr x) = inr (subst (λ y. IsReadFrom purpose y a) (small_whole b bytes e x.short) x)

-- what is found of a file is an answer of the checker's own
abbrev pub IsFinding : Answer → Type 0
IsFinding usage = ⊥
IsFinding read_fault = ⊥
IsFinding (limited limit) = Unit {0}
IsFinding (refused cause) = Unit {0}
IsFinding (successful used) = Unit {0}
IsFinding (failed f) = Unit {0}
IsFinding (used_up used) = Unit {0}
IsFinding (listed properties) = Unit {0}

is_finding : (f : Finding) → IsFinding (answer_of f)
is_finding (findings.Successful used) = tt
is_finding (findings.Failed f) = tt
is_finding (findings.Refused r) = tt
is_finding (findings.Limited l) = tt
is_finding (findings.Budget used) = tt
is_finding (findings.Listed l) = tt

allows_decided : (asked : Asked) (bytes : List ℕ) (rose : List ℕ → Type 0) (a : Answer) → IsFinding a → Decides (purpose_of asked) bytes a → Allows asked bytes rose a
allows_decided asked bytes rose usage i d = i
allows_decided asked bytes rose read_fault i d = absurd i
allows_decided asked bytes rose (limited limit) i d = d
allows_decided asked bytes rose (refused cause) i d = d
allows_decided asked bytes rose (successful used) i d = d
allows_decided asked bytes rose (failed f) i d = d
allows_decided asked bytes rose (used_up used) i d = d
allows_decided asked bytes rose (listed properties) i d = d

-- the bytes that an answer is about: those told, or those read
with_bytes : (asked : Asked) (holds : List ℕ → Option (List ℕ)) (rose : List ℕ → Type 0) (a : Answer) (told : Option (List ℕ)) → bytes_told asked holds ≡ told → (bytes : List ℕ) → IfSome told (λ b. bytes ≡ b) → Allows asked bytes rose a
    → IsAnswerTo asked holds rose a
with_bytes asked holds rose a told e bytes is allowed = record { bytes = bytes; told = subst (λ h. IfSome h (λ b. bytes ≡ b)) (sym e) is; allowed = allowed }

told_is : (asked : Asked) (holds : List ℕ → Option (List ℕ)) (generate : Option ℕ) (held : Option (List ℕ)) → asked.generate ≡ generate → holds asked.name ≡ held → bytes_told asked holds ≡ told_where generate held
told_is asked holds generate held e h = ap (λ g. told_where g (holds asked.name)) e ∙ ap (told_where generate) h

answer_on : (asked : Asked) (holds : List ℕ → Option (List ℕ)) (rose : List ℕ → Type 0) (a : Answer) (generate : Option ℕ) (held : Option (List ℕ)) → asked.generate ≡ generate → holds asked.name ≡ held
    → (bytes : List ℕ) → given_where generate held bytes → IsFinding a → Decides (purpose_of asked) bytes a → IsAnswerTo asked holds rose a
answer_on asked holds rose a None None e h bytes given i d = with_bytes asked holds rose a None (told_is asked holds None None e h) bytes tt (allows_decided asked bytes rose a i d)
answer_on asked holds rose a None (Some b) e h bytes given i d =
    with_bytes asked holds rose a (Some b) (told_is asked holds None (Some b) e h) b refl (allows_decided asked b rose a i (decides_whole (purpose_of asked) b bytes a given.told d))
answer_on asked holds rose a (Some n) held e h bytes given i d =
    with_bytes asked holds rose a (Some (generated_text n)) (told_is asked holds (Some n) held e h) bytes given (allows_decided asked bytes rose a i d)

pub report_on : (asked : Asked) (holds : List ℕ → Option (List ℕ)) (rose : List ℕ → Type 0) (bytes : List ℕ) (status : ℕ) (text : List ℕ) (spent : Option Used) → WasGiven asked holds bytes → IsReported asked bytes status text spent → IsReportOn asked holds rose status text spent
report_on asked holds rose bytes status text spent given r =
    record {
      answer = answer_of r.finding;
      answered = answer_on asked holds rose (answer_of r.finding) asked.generate (holds asked.name) refl refl bytes given (is_finding r.finding) r.decides;
      status_is = r.status_is;
      text_is = r.text_is;
      spent_is = r.spent_is;
    }

-- ---- read faults

fault_on : (asked : Asked) (holds : List ℕ → Option (List ℕ)) (rose : List ℕ → Type 0) (told : Option (List ℕ)) → bytes_told asked holds ≡ told → (name : List ℕ) → file_read asked ≡ Some name → rose name → IsAnswerTo asked holds rose read_fault
fault_on asked holds rose None e name is r = with_bytes asked holds rose read_fault None e [] tt (name, is, r)
fault_on asked holds rose (Some b) e name is r = with_bytes asked holds rose read_fault (Some b) e b refl (name, is, r)

pub fault_answered : (asked : Asked) (holds : List ℕ → Option (List ℕ)) (rose : List ℕ → Type 0) (name : List ℕ) → file_read asked ≡ Some name → rose name → IsAnswerTo asked holds rose read_fault
fault_answered asked holds rose name is r = fault_on asked holds rose (bytes_told asked holds) refl name is r

pub file_there : (asked : Asked) (o : Option (List ℕ)) → file_read asked ≡ o → (o ≡ None → ⊥) → (name : List ℕ) × (file_read asked ≡ Some name)
file_there asked None e some = absurd (some refl)
file_there asked (Some name) e some = (name, e)

-- ---- words

pub command_reported : (words : List (List ℕ)) (holds : List ℕ → Option (List ℕ)) (rose : List ℕ → Type 0) (asked : Asked) (status : ℕ) (text : List ℕ) (spent : Option Used) → IsCommand words asked → IsHead (head_asked asked) → IsReportOn asked holds rose status text spent
    → Reported words holds rose status text spent
command_reported words holds rose asked status text spent is head r =
    record { answer = r.answer; answered = record { command = Some asked; means = is; answers = (r.answered, r.text_is) }; head = head; status_is = r.status_is; spent_is = r.spent_is }

pub usage_reported : (words : List (List ℕ)) (holds : List ℕ → Option (List ℕ)) (rose : List ℕ → Type 0) (status : ℕ) (text : List ℕ) (spent : Option Used) → ((asked : Asked) → IsCommand words asked → ⊥) → status ≡ 1 → text ≡ usage_text → spent ≡ None
    → Reported words holds rose status text spent
usage_reported words holds rose status text spent none s t u = record { answer = usage; answered = record { command = None; means = none; answers = (refl, t) }; head = tt; status_is = s; spent_is = u }

-- ---- sizes

few_given : (generate : Option ℕ) (held : Option (List ℕ)) (bytes : List ℕ) → is_generated generate ≡ true → given_where generate held bytes → length bytes ≤ 1048577
few_given None held bytes is given = given.few
few_given (Some n) held bytes is given = let most : n ≤ 16 = grind (arith, nat_tests, is) in let few = few_bytes n most in omega (arith, ap length given, few)

pub given_few : (asked : Asked) (holds : List ℕ → Option (List ℕ)) (bytes : List ℕ) → is_generated asked.generate ≡ true → WasGiven asked holds bytes → length bytes ≤ 1048577
given_few asked holds bytes is given = few_given asked.generate (holds asked.name) bytes is given
