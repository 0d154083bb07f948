-- Each answer has its cause, and each cause its answer.
use Rattle.std.proofs.Common.{◌≡◌, ◌≢◌, ◌⊎◌, inl, inr, ℕ, List, [], ◌∷◌, Option, Some, None, sym, refl, ap, ◌∙◌, subst, arith}
use Rattle.std.specs.Prelude.{IfSome, IsSome, ◌↔◌}
use Rattle.core_tree.specs.Trees.{TypedFile}
use Rattle.core_tree.specs.Ranges.{Limits, Cause}
use Rattle.core_tree.specs.declared.refusal.Limit.{Limit}
use Rattle.outside.specs.Sink.{appended}
use Rattle.options.specs.declared.options.Job.{Job}
use Rattle.options.specs.declared.options.Job.TheVariants as jobs
use Rattle.options.specs.Command.{Asked, IsCommand}
use Rattle.properties.specs.Properties.{properties_of}
use Rattle.goto_unwind.specs.Counts.{passed}
use Rattle.cbmc_top.specs.Programs.{IsFileOf, IsAccepted, IsCheckable}
use Rattle.cbmc_top.specs.Command.{Purpose, checking, listing, purpose_of, purpose_by, head_asked, file_read, bytes_told}
use Rattle.run_search.specs.Executions.{IsVerified}
use Rattle.run_search.specs.Clauses.{IsRefuted, IsUsedUp}
use Rattle.run_search.specs.declared.used.Used.{Used}
use Rattle.report.specs.Properties.{properties_text, Told as Entry}
use Rattle.report.specs.Report.{Failure, IsHead, success_text, failure_text, limit_text, refusal_text, budget_text}
use Rattle.run_search.specs.Answers.{Answer, usage, read_fault, limited, refused, successful, failed, used_up, listed}
use Rattle.cbmc_top.specs.Answers.{status_of, text_of, spent_of, usage_text, Decides, Allows, Answered, Answers, HasNoFault, IsAnswerTo, IsSearched, Means, Reported, IsOneOf, IsOfSearch, IsFailure, AfterCounts, AtCounts}
use Rattle.cbmc_top.proofs.Stages.{Same, Told, told, Reached, reached, search_behind, search_of}
use Rattle.cbmc_top.proofs.Spent.{both_spent}

-- two commands of the same words ask for the same
abbrev pub OneCommand : Type 0
OneCommand = (words : List (List ℕ)) (a b : Asked) → IsCommand words a → IsCommand words b → a ≡ b

-- what is told to a command on bytes that are told
pub record Tells (asked : Asked) (bytes : List ℕ) (rose : List ℕ → Type 0) (status : ℕ) (text : List ℕ) (spent : Option Used) : Type 0 where
  pub answer : Answer
  pub allowed : Allows asked bytes rose answer
  pub status_is : status ≡ status_of answer
  pub text_is : text ≡ text_of asked answer
  pub spent_is : spent ≡ spent_of answer

told_answer : (asked : Asked) (bytes : List ℕ) (holds : List ℕ → Option (List ℕ)) (rose : List ℕ → Type 0) (a : Answer) → bytes_told asked holds ≡ Some bytes → IsAnswerTo asked holds rose a → Allows asked bytes rose a
told_answer asked bytes holds rose a held x =
    let same : x.bytes ≡ bytes = subst (λ h. IfSome h (λ b. x.bytes ≡ b)) held x.told in
    subst (λ b. Allows asked b rose a) same x.allowed

-- the answer to words that are a command
pub answer_to : OneCommand → (words : List (List ℕ)) (holds : List ℕ → Option (List ℕ)) (rose : List ℕ → Type 0) (a : Answer) (text : List ℕ) (asked : Asked) → IsCommand words asked
    → (command : Option Asked) → Means words command → Answers command holds rose a text → IsAnswerTo asked holds rose a × (text ≡ text_of asked a)
answer_to law words holds rose a text asked is None means x = absurd (means asked is)
answer_to law words holds rose a text asked is (Some other) means x = subst (λ c. IsAnswerTo c holds rose a × (text ≡ text_of c a)) (law words other asked means is) x

pub tells : OneCommand → (words : List (List ℕ)) (holds : List ℕ → Option (List ℕ)) (rose : List ℕ → Type 0) (status : ℕ) (text : List ℕ) (spent : Option Used) → Reported words holds rose status text spent
    → (asked : Asked) (bytes : List ℕ) → IsCommand words asked → bytes_told asked holds ≡ Some bytes → Tells asked bytes rose status text spent
tells law words holds rose status text spent r asked bytes is held =
    let x = answer_to law words holds rose r.answer text asked is r.answered.command r.answered.means r.answered.answers in
    record { answer = r.answer; allowed = told_answer asked bytes holds rose r.answer held x.0; status_is = r.status_is; text_is = x.1; spent_is = r.spent_is }

head_to : OneCommand → (words : List (List ℕ)) (asked : Asked) → IsCommand words asked → (command : Option Asked) → Means words command → IfSome command (λ a. IsHead (head_asked a)) → IsHead (head_asked asked)
head_to law words asked is None means head = absurd (means asked is)
head_to law words asked is (Some other) means head = subst (λ a. IsHead (head_asked a)) (law words other asked means is) head

some_is : {A : Type 0} {x y : A} → Some x ≡ Some y → x ≡ y
some_is e = cc

checking_is : (asked : Asked) → asked.job ≡ jobs.Check → purpose_of asked ≡ checking asked.limits asked.budget
checking_is asked e = ap (purpose_by asked.limits asked.budget) e

listing_is : (asked : Asked) → asked.job ≡ jobs.Properties → purpose_of asked ≡ listing
listing_is asked e = ap (purpose_by asked.limits asked.budget) e

-- an answer of the search is one of a check
of_check : (asked : Asked) (bytes : List ℕ) (a : Answer) (job : Job) → IsOfSearch a → Decides (purpose_by asked.limits asked.budget job) bytes a → Told asked.limits asked.budget bytes a
of_check asked bytes a jobs.Check x d = told asked.limits asked.budget bytes a x d
of_check asked bytes a jobs.Properties x d = absurd (subst IsOfSearch (reached listing bytes a (search_behind a x) d).after x)

-- a check lists nothing, and a list is no success
not_listed : (limits : Limits) (budget : ℕ) (core : TypedFile) (o : Option Limit) (properties : List Entry) → AtCounts limits budget core o (listed properties) → ⊥
not_listed limits budget core None properties x = x
not_listed limits budget core (Some l) properties x = cc

check_lists : (asked : Asked) (bytes : List ℕ) (properties : List Entry) → asked.job ≡ jobs.Check → Decides (purpose_of asked) bytes (listed properties) → ⊥
check_lists asked bytes properties check d =
    let r = reached (checking asked.limits asked.budget) bytes (listed properties) tt (subst (λ p. Decides p bytes (listed properties)) (checking_is asked check) d) in
    not_listed asked.limits asked.budget r.core (passed r.core asked.limits) properties r.after

listing_succeeds : (asked : Asked) (bytes : List ℕ) (used : Used) → asked.job ≡ jobs.Properties → Decides (purpose_of asked) bytes (successful used) → ⊥
listing_succeeds asked bytes used list d =
    let r = reached listing bytes (successful used) tt (subst (λ p. Decides p bytes (successful used)) (listing_is asked list) d) in
    let same = r.after in cc

-- ---- what an answer of a status says

-- what a success says, with what was searched and what was taken
abbrev Succeeds : Asked → List ℕ → Option Used → Option (List ℕ) → Option (List ℕ) → Type 0
Succeeds asked bytes spent before now =
    (core : TypedFile) × (used : Used) × IsFileOf bytes core × IsVerified asked.limits core × (spent ≡ Some used) × IsRefuted asked.limits asked.budget core used × (now ≡ appended before (success_text (head_asked asked)))

success_of : (asked : Asked) (bytes : List ℕ) (used : Used) (spent : Option Used) (before now : Option (List ℕ)) → spent ≡ Some used → now ≡ appended before (success_text (head_asked asked)) → Told asked.limits asked.budget bytes (successful used) → Succeeds asked bytes spent before now
success_of asked bytes used spent before now e taken t = (t.core, used, t.program, t.after.0, e, t.after.1, taken)

success_by : (asked : Asked) (bytes : List ℕ) (rose : List ℕ → Type 0) (a : Answer) (spent : Option Used) (before now : Option (List ℕ)) → asked.job ≡ jobs.Check → Allows asked bytes rose a → status_of a ≡ 0 → spent ≡ spent_of a → now ≡ appended before (text_of asked a)
    → Succeeds asked bytes spent before now
success_by asked bytes rose usage spent before now check x e s taken = absurd x
success_by asked bytes rose read_fault spent before now check x e s taken = absurd (omega (arith, e))
success_by asked bytes rose (limited limit) spent before now check x e s taken = absurd (omega (arith, e))
success_by asked bytes rose (refused cause) spent before now check x e s taken = absurd (omega (arith, e))
success_by asked bytes rose (successful used) spent before now check x e s taken = success_of asked bytes used spent before now s taken (of_check asked bytes (successful used) asked.job tt x)
success_by asked bytes rose (failed f) spent before now check x e s taken = absurd (omega (arith, e))
success_by asked bytes rose (used_up used) spent before now check x e s taken = absurd (omega (arith, e))
success_by asked bytes rose (listed properties) spent before now check x e s taken = absurd (check_lists asked bytes properties check x)

pub success_is : OneCommand → (words : List (List ℕ)) (holds : List ℕ → Option (List ℕ)) (rose : List ℕ → Type 0) (status : ℕ) (text : List ℕ) (spent : Option Used) → Reported words holds rose status text spent → (before now : Option (List ℕ)) → now ≡ appended before text
    → status ≡ 0 → (asked : Asked) (bytes : List ℕ) → IsCommand words asked → asked.job ≡ jobs.Check → bytes_told asked holds ≡ Some bytes → Succeeds asked bytes spent before now
success_is law words holds rose status text spent r before now taken e asked bytes is check held =
    let t = tells law words holds rose status text spent r asked bytes is held in
    success_by asked bytes rose t.answer spent before now check t.allowed (sym t.status_is ∙ e) t.spent_is (taken ∙ ap (appended before) t.text_is)

-- what a list of properties says
abbrev Lists : List ℕ → Option Used → Option (List ℕ) → Option (List ℕ) → Type 0
Lists bytes spent before now = (core : TypedFile) × (file : IsFileOf bytes core) × (spent ≡ None) × (now ≡ appended before (properties_text (properties_of file.tree)))

listed_is : {x y : List Entry} → listed x ≡ listed y → x ≡ y
listed_is e = cc

list_of : (bytes : List ℕ) (properties : List Entry) (spent : Option Used) (before now : Option (List ℕ)) → spent ≡ None → now ≡ appended before (properties_text properties) → Reached listing bytes (listed properties) → Lists bytes spent before now
list_of bytes properties spent before now none taken r =
    (r.core, r.accepted.program, none, taken ∙ ap (λ p. appended before (properties_text p)) (listed_is r.after))

list_by : (asked : Asked) (bytes : List ℕ) (rose : List ℕ → Type 0) (a : Answer) (spent : Option Used) (before now : Option (List ℕ)) → asked.job ≡ jobs.Properties → Allows asked bytes rose a → status_of a ≡ 0 → spent ≡ spent_of a → now ≡ appended before (text_of asked a)
    → Lists bytes spent before now
list_by asked bytes rose usage spent before now list x e s taken = absurd x
list_by asked bytes rose read_fault spent before now list x e s taken = absurd (omega (arith, e))
list_by asked bytes rose (limited limit) spent before now list x e s taken = absurd (omega (arith, e))
list_by asked bytes rose (refused cause) spent before now list x e s taken = absurd (omega (arith, e))
list_by asked bytes rose (successful used) spent before now list x e s taken = absurd (listing_succeeds asked bytes used list x)
list_by asked bytes rose (failed f) spent before now list x e s taken = absurd (omega (arith, e))
list_by asked bytes rose (used_up used) spent before now list x e s taken = absurd (omega (arith, e))
list_by asked bytes rose (listed properties) spent before now list x e s taken = list_of bytes properties spent before now s taken (reached listing bytes (listed properties) tt (subst (λ p. Decides p bytes (listed properties)) (listing_is asked list) x))

pub list_is : OneCommand → (words : List (List ℕ)) (holds : List ℕ → Option (List ℕ)) (rose : List ℕ → Type 0) (status : ℕ) (text : List ℕ) (spent : Option Used) → Reported words holds rose status text spent → (before now : Option (List ℕ)) → now ≡ appended before text
    → status ≡ 0 → (asked : Asked) (bytes : List ℕ) → IsCommand words asked → asked.job ≡ jobs.Properties → bytes_told asked holds ≡ Some bytes → Lists bytes spent before now
list_is law words holds rose status text spent r before now taken e asked bytes is list held =
    let t = tells law words holds rose status text spent r asked bytes is held in
    list_by asked bytes rose t.answer spent before now list t.allowed (sym t.status_is ∙ e) t.spent_is (taken ∙ ap (appended before) t.text_is)

-- what a budget that is used up says, with what was searched and what was taken
abbrev Exhausts : Asked → List ℕ → Option Used → Option (List ℕ) → Option (List ℕ) → Type 0
Exhausts asked bytes spent before now =
    (core : TypedFile) × (used : Used) × IsFileOf bytes core × (spent ≡ Some used) × IsUsedUp asked.limits asked.budget core used × (now ≡ appended before (budget_text asked.budget))

budget_of : (asked : Asked) (bytes : List ℕ) (used : Used) (spent : Option Used) (before now : Option (List ℕ)) → spent ≡ Some used → now ≡ appended before (budget_text asked.budget) → Told asked.limits asked.budget bytes (used_up used) → Exhausts asked bytes spent before now
budget_of asked bytes used spent before now e taken t = (t.core, used, t.program, e, t.after, taken)

budget_by : (asked : Asked) (bytes : List ℕ) (rose : List ℕ → Type 0) (a : Answer) (spent : Option Used) (before now : Option (List ℕ)) → Allows asked bytes rose a → status_of a ≡ 5 → spent ≡ spent_of a → now ≡ appended before (text_of asked a)
    → Exhausts asked bytes spent before now
budget_by asked bytes rose usage spent before now x e s taken = absurd x
budget_by asked bytes rose read_fault spent before now x e s taken = absurd (omega (arith, e))
budget_by asked bytes rose (limited limit) spent before now x e s taken = absurd (omega (arith, e))
budget_by asked bytes rose (refused cause) spent before now x e s taken = absurd (omega (arith, e))
budget_by asked bytes rose (successful used) spent before now x e s taken = absurd (omega (arith, e))
budget_by asked bytes rose (failed f) spent before now x e s taken = absurd (omega (arith, e))
budget_by asked bytes rose (used_up used) spent before now x e s taken = budget_of asked bytes used spent before now s taken (of_check asked bytes (used_up used) asked.job tt x)
budget_by asked bytes rose (listed properties) spent before now x e s taken = absurd (omega (arith, e))

pub budget_is : OneCommand → (words : List (List ℕ)) (holds : List ℕ → Option (List ℕ)) (rose : List ℕ → Type 0) (status : ℕ) (text : List ℕ) (spent : Option Used) → Reported words holds rose status text spent → (before now : Option (List ℕ)) → now ≡ appended before text
    → status ≡ 5 → (asked : Asked) (bytes : List ℕ) → IsCommand words asked → bytes_told asked holds ≡ Some bytes → Exhausts asked bytes spent before now
budget_is law words holds rose status text spent r before now taken e asked bytes is held =
    let t = tells law words holds rose status text spent r asked bytes is held in
    budget_by asked bytes rose t.answer spent before now t.allowed (sym t.status_is ∙ e) t.spent_is (taken ∙ ap (appended before) t.text_is)

-- a success doesn't come with a log that has spent the budget
not_spent : (asked : Asked) (bytes : List ℕ) (core : TypedFile) (used other : Used) → Decides (purpose_of asked) bytes (successful other) → used ≡ other → IsUsedUp asked.limits asked.budget core used → ⊥
not_spent asked bytes core used other x e u =
    let t = of_check asked bytes (successful other) asked.job tt x in both_spent asked.limits asked.budget asked.budget core t.core used other e u t.after.1

spent_by : (asked : Asked) (bytes : List ℕ) (rose : List ℕ → Type 0) (a : Answer) (core : TypedFile) (used : Used) → Allows asked bytes rose a → Some used ≡ spent_of a → IsUsedUp asked.limits asked.budget core used → status_of a ≡ 5
spent_by asked bytes rose usage core used x s u = cc
spent_by asked bytes rose read_fault core used x s u = cc
spent_by asked bytes rose (limited limit) core used x s u = cc
spent_by asked bytes rose (refused cause) core used x s u = cc
spent_by asked bytes rose (successful other) core used x s u = absurd (not_spent asked bytes core used other x (some_is s) u)
spent_by asked bytes rose (failed f) core used x s u = cc
spent_by asked bytes rose (used_up other) core used x s u = refl
spent_by asked bytes rose (listed properties) core used x s u = cc

pub spent_is : OneCommand → (words : List (List ℕ)) (holds : List ℕ → Option (List ℕ)) (rose : List ℕ → Type 0) (status : ℕ) (text : List ℕ) (spent : Option Used) → Reported words holds rose status text spent
    → (asked : Asked) (core : TypedFile) (used : Used) → IsCommand words asked → spent ≡ Some used → IsUsedUp asked.limits asked.budget core used → status ≡ 5
spent_is law words holds rose status text spent r asked core used is s u =
    let x = answer_to law words holds rose r.answer text asked is r.answered.command r.answered.means r.answered.answers in
    r.status_is ∙ spent_by asked x.0.bytes rose r.answer core used x.0.allowed (sym s ∙ r.spent_is) u

-- ---- which answers give what was searched

job_check : (asked : Asked) (bytes : List ℕ) (used : Used) (job : Job) → asked.job ≡ job → Decides (purpose_of asked) bytes (successful used) → asked.job ≡ jobs.Check
job_check asked bytes used jobs.Check e d = e
job_check asked bytes used jobs.Properties e d = absurd (listing_succeeds asked bytes used e d)

searched_by : (words : List (List ℕ)) (holds : List ℕ → Option (List ℕ)) (rose : List ℕ → Type 0) (a : Answer) (text : List ℕ) (command : Option Asked) → Means words command → Answers command holds rose a text → IsSome (spent_of a) → IsSearched words (status_of a)
searched_by words holds rose usage text command means x s = cc
searched_by words holds rose read_fault text command means x s = cc
searched_by words holds rose (limited limit) text command means x s = cc
searched_by words holds rose (refused cause) text command means x s = cc
searched_by words holds rose (successful used) text None means x s = let same = x.0 in cc
searched_by words holds rose (successful used) text (Some asked) means x s = inr (refl, (asked, means, job_check asked x.0.bytes used asked.job refl x.0.allowed))
searched_by words holds rose (failed f) text command means x s = cc
searched_by words holds rose (used_up used) text command means x s = inl refl
searched_by words holds rose (listed properties) text command means x s = cc

gives_5 : (a : Answer) → status_of a ≡ 5 → IsSome (spent_of a)
gives_5 usage e = absurd (omega (arith, e))
gives_5 read_fault e = absurd (omega (arith, e))
gives_5 (limited limit) e = absurd (omega (arith, e))
gives_5 (refused cause) e = absurd (omega (arith, e))
gives_5 (successful used) e = absurd (omega (arith, e))
gives_5 (failed f) e = absurd (omega (arith, e))
gives_5 (used_up used) e = refl
gives_5 (listed properties) e = absurd (omega (arith, e))

gives_0 : (asked : Asked) (bytes : List ℕ) (rose : List ℕ → Type 0) (a : Answer) → asked.job ≡ jobs.Check → Allows asked bytes rose a → status_of a ≡ 0 → IsSome (spent_of a)
gives_0 asked bytes rose usage check x e = absurd (omega (arith, e))
gives_0 asked bytes rose read_fault check x e = absurd (omega (arith, e))
gives_0 asked bytes rose (limited limit) check x e = absurd (omega (arith, e))
gives_0 asked bytes rose (refused cause) check x e = absurd (omega (arith, e))
gives_0 asked bytes rose (successful used) check x e = refl
gives_0 asked bytes rose (failed f) check x e = absurd (omega (arith, e))
gives_0 asked bytes rose (used_up used) check x e = absurd (omega (arith, e))
gives_0 asked bytes rose (listed properties) check x e = absurd (check_lists asked bytes properties check x)

gives_by : OneCommand → (words : List (List ℕ)) (holds : List ℕ → Option (List ℕ)) (rose : List ℕ → Type 0) (status : ℕ) (text : List ℕ) (spent : Option Used) (r : Reported words holds rose status text spent) → IsSearched words status → IsSome (spent_of r.answer)
gives_by law words holds rose status text spent r (inl e) = gives_5 r.answer (sym r.status_is ∙ e)
gives_by law words holds rose status text spent r (inr x) =
    let asked = x.1.0 in
    let a = answer_to law words holds rose r.answer text asked x.1.1 r.answered.command r.answered.means r.answered.answers in
    gives_0 asked a.0.bytes rose r.answer x.1.2 a.0.allowed (sym r.status_is ∙ x.0)

pub given_is : OneCommand → (words : List (List ℕ)) (holds : List ℕ → Option (List ℕ)) (rose : List ℕ → Type 0) (status : ℕ) (text : List ℕ) (spent : Option Used) → Reported words holds rose status text spent → IsSome spent ↔ IsSearched words status
given_is law words holds rose status text spent r = (
  (λ s. subst (IsSearched words) (sym r.status_is) (searched_by words holds rose r.answer text r.answered.command r.answered.means r.answered.answers (subst IsSome r.spent_is s))),
  (λ x. subst IsSome (sym r.spent_is) (gives_by law words holds rose status text spent r x)),
)

-- ---- failures, limits and refusals

abbrev Fails : Asked → List ℕ → Option (List ℕ) → Option (List ℕ) → Type 0
Fails asked bytes before now = (core : TypedFile) × (f : Failure) × IsFileOf bytes core × IsFailure asked.limits core f × IsHead (head_asked asked) × (now ≡ appended before (failure_text (head_asked asked) f))

failure_of : (asked : Asked) (bytes : List ℕ) (f : Failure) (before now : Option (List ℕ)) → IsHead (head_asked asked) → now ≡ appended before (failure_text (head_asked asked) f) → Told asked.limits asked.budget bytes (failed f) → Fails asked bytes before now
failure_of asked bytes f before now head taken t = (t.core, f, t.program, t.after, head, taken)

failure_by : (asked : Asked) (bytes : List ℕ) (rose : List ℕ → Type 0) (a : Answer) (before now : Option (List ℕ)) → IsHead (head_asked asked) → Allows asked bytes rose a → status_of a ≡ 10 → now ≡ appended before (text_of asked a) → Fails asked bytes before now
failure_by asked bytes rose usage before now head x e taken = absurd x
failure_by asked bytes rose read_fault before now head x e taken = absurd (omega (arith, e))
failure_by asked bytes rose (limited limit) before now head x e taken = absurd (omega (arith, e))
failure_by asked bytes rose (refused cause) before now head x e taken = absurd (omega (arith, e))
failure_by asked bytes rose (successful used) before now head x e taken = absurd (omega (arith, e))
failure_by asked bytes rose (failed f) before now head x e taken = failure_of asked bytes f before now head taken (of_check asked bytes (failed f) asked.job tt x)
failure_by asked bytes rose (used_up used) before now head x e taken = absurd (omega (arith, e))
failure_by asked bytes rose (listed properties) before now head x e taken = absurd (omega (arith, e))

pub failure_is : OneCommand → (words : List (List ℕ)) (holds : List ℕ → Option (List ℕ)) (rose : List ℕ → Type 0) (status : ℕ) (text : List ℕ) (spent : Option Used) → Reported words holds rose status text spent → (before now : Option (List ℕ)) → now ≡ appended before text
    → status ≡ 10 → (asked : Asked) (bytes : List ℕ) → IsCommand words asked → bytes_told asked holds ≡ Some bytes → Fails asked bytes before now
failure_is law words holds rose status text spent r before now taken e asked bytes is held =
    let t = tells law words holds rose status text spent r asked bytes is held in
    failure_by asked bytes rose t.answer before now (head_to law words asked is r.answered.command r.answered.means r.head) t.allowed (sym t.status_is ∙ e) (taken ∙ ap (appended before) t.text_is)

abbrev Passes : Asked → List ℕ → Option (List ℕ) → Option (List ℕ) → Type 0
Passes asked bytes before now = (limit : Limit) × Decides (purpose_of asked) bytes (limited limit) × (now ≡ appended before (limit_text limit))

limited_by : (asked : Asked) (bytes : List ℕ) (rose : List ℕ → Type 0) (a : Answer) (before now : Option (List ℕ)) → Allows asked bytes rose a → status_of a ≡ 7 → now ≡ appended before (text_of asked a) → Passes asked bytes before now
limited_by asked bytes rose usage before now x e taken = absurd x
limited_by asked bytes rose read_fault before now x e taken = absurd (omega (arith, e))
limited_by asked bytes rose (limited limit) before now x e taken = (limit, x, taken)
limited_by asked bytes rose (refused cause) before now x e taken = absurd (omega (arith, e))
limited_by asked bytes rose (successful used) before now x e taken = absurd (omega (arith, e))
limited_by asked bytes rose (failed f) before now x e taken = absurd (omega (arith, e))
limited_by asked bytes rose (used_up used) before now x e taken = absurd (omega (arith, e))
limited_by asked bytes rose (listed properties) before now x e taken = absurd (omega (arith, e))

pub limited_is : OneCommand → (words : List (List ℕ)) (holds : List ℕ → Option (List ℕ)) (rose : List ℕ → Type 0) (status : ℕ) (text : List ℕ) (spent : Option Used) → Reported words holds rose status text spent → (before now : Option (List ℕ)) → now ≡ appended before text
    → status ≡ 7 → (asked : Asked) (bytes : List ℕ) → IsCommand words asked → bytes_told asked holds ≡ Some bytes → Passes asked bytes before now
limited_is law words holds rose status text spent r before now taken e asked bytes is held =
    let t = tells law words holds rose status text spent r asked bytes is held in limited_by asked bytes rose t.answer before now t.allowed (sym t.status_is ∙ e) (taken ∙ ap (appended before) t.text_is)

abbrev Refuses : Asked → List ℕ → Option (List ℕ) → Option (List ℕ) → Type 0
Refuses asked bytes before now = (cause : Cause) × Decides (purpose_of asked) bytes (refused cause) × (now ≡ appended before (refusal_text cause.number cause.line cause.rule))

refused_by : (asked : Asked) (bytes : List ℕ) (rose : List ℕ → Type 0) (a : Answer) (before now : Option (List ℕ)) → Allows asked bytes rose a → status_of a ≡ 6 → now ≡ appended before (text_of asked a) → Refuses asked bytes before now
refused_by asked bytes rose usage before now x e taken = absurd x
refused_by asked bytes rose read_fault before now x e taken = absurd (omega (arith, e))
refused_by asked bytes rose (limited limit) before now x e taken = absurd (omega (arith, e))
refused_by asked bytes rose (refused cause) before now x e taken = (cause, x, taken)
refused_by asked bytes rose (successful used) before now x e taken = absurd (omega (arith, e))
refused_by asked bytes rose (failed f) before now x e taken = absurd (omega (arith, e))
refused_by asked bytes rose (used_up used) before now x e taken = absurd (omega (arith, e))
refused_by asked bytes rose (listed properties) before now x e taken = absurd (omega (arith, e))

pub refused_is : OneCommand → (words : List (List ℕ)) (holds : List ℕ → Option (List ℕ)) (rose : List ℕ → Type 0) (status : ℕ) (text : List ℕ) (spent : Option Used) → Reported words holds rose status text spent → (before now : Option (List ℕ)) → now ≡ appended before text
    → status ≡ 6 → (asked : Asked) (bytes : List ℕ) → IsCommand words asked → bytes_told asked holds ≡ Some bytes → Refuses asked bytes before now
refused_is law words holds rose status text spent r before now taken e asked bytes is held =
    let t = tells law words holds rose status text spent r asked bytes is held in refused_by asked bytes rose t.answer before now t.allowed (sym t.status_is ∙ e) (taken ∙ ap (appended before) t.text_is)

-- ---- usage and read faults

usage_by : (words : List (List ℕ)) (holds : List ℕ → Option (List ℕ)) (rose : List ℕ → Type 0) (a : Answer) (text : List ℕ) (command : Option Asked) → Means words command → Answers command holds rose a text → status_of a ≡ 1 → (asked : Asked) → IsCommand words asked → ⊥
usage_by words holds rose a text None means x e = means
usage_by words holds rose usage text (Some other) means x e = λ asked is. x.0.allowed
usage_by words holds rose read_fault text (Some other) means x e = absurd (omega (arith, e))
usage_by words holds rose (limited limit) text (Some other) means x e = absurd (omega (arith, e))
usage_by words holds rose (refused cause) text (Some other) means x e = absurd (omega (arith, e))
usage_by words holds rose (successful used) text (Some other) means x e = absurd (omega (arith, e))
usage_by words holds rose (failed f) text (Some other) means x e = absurd (omega (arith, e))
usage_by words holds rose (used_up used) text (Some other) means x e = absurd (omega (arith, e))
usage_by words holds rose (listed properties) text (Some other) means x e = absurd (omega (arith, e))

pub usage_is : (words : List (List ℕ)) (holds : List ℕ → Option (List ℕ)) (rose : List ℕ → Type 0) (status : ℕ) (text : List ℕ) (spent : Option Used) → Reported words holds rose status text spent → status ≡ 1 → (asked : Asked) → IsCommand words asked → ⊥
usage_is words holds rose status text spent r e = usage_by words holds rose r.answer text r.answered.command r.answered.means r.answered.answers (sym r.status_is ∙ e)

usage_for : (words : List (List ℕ)) (holds : List ℕ → Option (List ℕ)) (rose : List ℕ → Type 0) (a : Answer) (text : List ℕ) (command : Option Asked) → Means words command → Answers command holds rose a text → ((asked : Asked) → IsCommand words asked → ⊥) → status_of a ≡ 1
usage_for words holds rose a text None means x none = ap status_of x.0
usage_for words holds rose a text (Some asked) means x none = absurd (none asked means)

pub usage_of : (words : List (List ℕ)) (holds : List ℕ → Option (List ℕ)) (rose : List ℕ → Type 0) (status : ℕ) (text : List ℕ) (spent : Option Used) → Reported words holds rose status text spent → ((asked : Asked) → IsCommand words asked → ⊥) → IsOneOf (1 ∷ 9 ∷ 12 ∷ []) status
usage_of words holds rose status text spent r none = inl (r.status_is ∙ usage_for words holds rose r.answer text r.answered.command r.answered.means r.answered.answers none)

abbrev Faults : List (List ℕ) → (List ℕ → Type 0) → Type 0
Faults words rose = (asked : Asked) × (name : List ℕ) × IsCommand words asked × (file_read asked ≡ Some name) × rose name

fault_by : (words : List (List ℕ)) (holds : List ℕ → Option (List ℕ)) (rose : List ℕ → Type 0) (a : Answer) (text : List ℕ) (command : Option Asked) → Means words command → Answers command holds rose a text → status_of a ≡ 8 → Faults words rose
fault_by words holds rose a text None means x e = let same = ap status_of x.0 in absurd (omega (arith, e, same))
fault_by words holds rose usage text (Some asked) means x e = absurd (omega (arith, e))
fault_by words holds rose read_fault text (Some asked) means x e = let y = x.0.allowed in (asked, y.0, means, y.1, y.2)
fault_by words holds rose (limited limit) text (Some asked) means x e = absurd (omega (arith, e))
fault_by words holds rose (refused cause) text (Some asked) means x e = absurd (omega (arith, e))
fault_by words holds rose (successful used) text (Some asked) means x e = absurd (omega (arith, e))
fault_by words holds rose (failed f) text (Some asked) means x e = absurd (omega (arith, e))
fault_by words holds rose (used_up used) text (Some asked) means x e = absurd (omega (arith, e))
fault_by words holds rose (listed properties) text (Some asked) means x e = absurd (omega (arith, e))

pub fault_is : (words : List (List ℕ)) (holds : List ℕ → Option (List ℕ)) (rose : List ℕ → Type 0) (status : ℕ) (text : List ℕ) (spent : Option Used) → Reported words holds rose status text spent → status ≡ 8 → Faults words rose
fault_is words holds rose status text spent r e = fault_by words holds rose r.answer text r.answered.command r.answered.means r.answered.answers (sym r.status_is ∙ e)

-- ---- which answer a cause has

-- an answer that is allowed is a read fault's, or decided by the bytes
decided_by : (asked : Asked) (bytes : List ℕ) (rose : List ℕ → Type 0) (a : Answer) → Allows asked bytes rose a → HasNoFault asked rose → Decides (purpose_of asked) bytes a
decided_by asked bytes rose usage x fault = absurd x
decided_by asked bytes rose read_fault x fault = absurd (fault x.0 x.1 x.2)
decided_by asked bytes rose (limited limit) x fault = x
decided_by asked bytes rose (refused cause) x fault = x
decided_by asked bytes rose (successful used) x fault = x
decided_by asked bytes rose (failed f) x fault = x
decided_by asked bytes rose (used_up used) x fault = x
decided_by asked bytes rose (listed properties) x fault = x

search_status : (a : Answer) → IsOfSearch a → IsOneOf (0 ∷ 5 ∷ 10 ∷ 12 ∷ []) (status_of a)
search_status usage x = absurd x
search_status read_fault x = absurd x
search_status (limited limit) x = absurd x
search_status (refused cause) x = absurd x
search_status (successful used) x = inl refl
search_status (failed f) x = inr (inr (inl refl))
search_status (used_up used) x = inr (inl refl)
search_status (listed properties) x = absurd x

pub complete_of : ((limits : Limits) (budget : ℕ) (file : List ℕ) (core : TypedFile) (a : Answer) → IsCheckable limits file core → Decides (checking limits budget) file a → AfterCounts limits budget core a) → OneCommand
    → (words : List (List ℕ)) (holds : List ℕ → Option (List ℕ)) (rose : List ℕ → Type 0) (status : ℕ) (text : List ℕ) (spent : Option Used) → Reported words holds rose status text spent
    → (asked : Asked) (bytes : List ℕ) (core : TypedFile) → IsCommand words asked → asked.job ≡ jobs.Check → bytes_told asked holds ≡ Some bytes → IsCheckable asked.limits bytes core → HasNoFault asked rose → IsOneOf (0 ∷ 5 ∷ 10 ∷ 12 ∷ []) status
complete_of runs law words holds rose status text spent r asked bytes core is check held x fault =
    let t = tells law words holds rose status text spent r asked bytes is held in
    let d = subst (λ p. Decides p bytes t.answer) (checking_is asked check) (decided_by asked bytes rose t.answer t.allowed fault) in
    subst (IsOneOf (0 ∷ 5 ∷ 10 ∷ 12 ∷ [])) (sym t.status_is) (search_status t.answer (search_of asked.limits asked.budget core t.answer (runs asked.limits asked.budget bytes core t.answer x d)))

pub listed_of : ((file : List ℕ) (core : TypedFile) (x : IsAccepted file core) (a : Answer) → Decides listing file a → a ≡ listed (properties_of x.program.tree)) → OneCommand
    → (words : List (List ℕ)) (holds : List ℕ → Option (List ℕ)) (rose : List ℕ → Type 0) (status : ℕ) (text : List ℕ) (spent : Option Used) → Reported words holds rose status text spent
    → (asked : Asked) (bytes : List ℕ) (core : TypedFile) → IsCommand words asked → asked.job ≡ jobs.Properties → bytes_told asked holds ≡ Some bytes → IsAccepted bytes core → HasNoFault asked rose → IsOneOf (0 ∷ 12 ∷ []) status
listed_of lists law words holds rose status text spent r asked bytes core is list held x fault =
    let t = tells law words holds rose status text spent r asked bytes is held in
    let d = subst (λ p. Decides p bytes t.answer) (listing_is asked list) (decided_by asked bytes rose t.answer t.allowed fault) in
    inl (t.status_is ∙ ap status_of (lists bytes core x t.answer d))

-- an answer that is no run's is the only one
only : (a b : Answer) → (IsOfSearch b → ⊥) → Same a b → status_of a ≡ status_of b
only a b none (inl e) = ap status_of e
only a b none (inr x) = absurd (none x.1)

abbrev pub OneAnswer : Type 0
OneAnswer = (purpose : Purpose) (file : List ℕ) (a b : Answer) → Decides purpose file a → Decides purpose file b → Same a b

pub limited_of : OneAnswer → OneCommand → (words : List (List ℕ)) (holds : List ℕ → Option (List ℕ)) (rose : List ℕ → Type 0) (status : ℕ) (text : List ℕ) (spent : Option Used) → Reported words holds rose status text spent
    → (asked : Asked) (bytes : List ℕ) (limit : Limit) → IsCommand words asked → bytes_told asked holds ≡ Some bytes → Decides (purpose_of asked) bytes (limited limit) → HasNoFault asked rose → IsOneOf (7 ∷ 9 ∷ 12 ∷ []) status
limited_of one law words holds rose status text spent r asked bytes limit is held d fault =
    let t = tells law words holds rose status text spent r asked bytes is held in
    inl (t.status_is ∙ only t.answer (limited limit) (λ x. x) (one (purpose_of asked) bytes t.answer (limited limit) (decided_by asked bytes rose t.answer t.allowed fault) d))

pub refused_of : OneAnswer → OneCommand → (words : List (List ℕ)) (holds : List ℕ → Option (List ℕ)) (rose : List ℕ → Type 0) (status : ℕ) (text : List ℕ) (spent : Option Used) → Reported words holds rose status text spent
    → (asked : Asked) (bytes : List ℕ) (cause : Cause) → IsCommand words asked → bytes_told asked holds ≡ Some bytes → Decides (purpose_of asked) bytes (refused cause) → HasNoFault asked rose → IsOneOf (6 ∷ 9 ∷ 12 ∷ []) status
refused_of one law words holds rose status text spent r asked bytes cause is held d fault =
    let t = tells law words holds rose status text spent r asked bytes is held in
    inl (t.status_is ∙ only t.answer (refused cause) (λ x. x) (one (purpose_of asked) bytes t.answer (refused cause) (decided_by asked bytes rose t.answer t.allowed fault) d))
