-- The text of the generated program, line by line.
use Rattle.std.specs.Prelude.{ℕ, zero, suc, ◌++◌, List, [], ◌∷◌, codes}
use Rattle.std.specs.Fmt.{decimal}

abbrev pub line_of : List ℕ → List ℕ
line_of text = text ++ 10 ∷ []

-- the lines of 1 to n
abbrev pub each : (ℕ → List ℕ) → ℕ → List ℕ
each line zero = []
each line (suc n) = each line n ++ line (suc n)

abbrev pub first_lines : List ℕ
first_lines =
    line_of (codes "unsigned long s,a,b;") ++
    (line_of (codes "pthread_mutex_t m;") ++
    (line_of (codes "void *w(void *p){unsigned long k=(unsigned long)p;pthread_mutex_lock(&m);s=s^(a&(b|k));pthread_mutex_unlock(&m);return 0;}") ++
    (line_of (codes "int main(void){unsigned long e=0;") ++
    line_of (codes "a=nondet_ulong();b=nondet_ulong();"))))

-- `pthread_t tK;pthread_create(&tK,0,w,(void*)K);e=e^(a&(b|K));`
abbrev pub creates : ℕ → List ℕ
creates k =
    codes "pthread_t t" ++ (decimal k ++ (codes ";pthread_create(&t" ++ (decimal k ++ (codes ",0,w,(void*)" ++ (decimal k ++
    (codes ");e=e^(a&(b|" ++ (decimal k ++ line_of (codes "));"))))))))

-- `pthread_join(tK,0);`
abbrev pub joins : ℕ → List ℕ
joins k = codes "pthread_join(t" ++ (decimal k ++ line_of (codes ",0);"))

-- the program of n threads: all lines that create, and then all that join
abbrev pub generated_text : ℕ → List ℕ
generated_text n = first_lines ++ (each creates n ++ (each joins n ++ line_of (codes "assert(s==e);return 0;}")))
