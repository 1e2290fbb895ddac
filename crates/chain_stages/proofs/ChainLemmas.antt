-- Chains over lists, one after another.
use Rattle.std.proofs.Common.{◌≡◌, List, [], ◌∷◌, ◌++◌, refl, ap, sym, ◌∙◌, append_assoc, append-nil}
use Rattle.chain_stages.specs.declared.element.Element.{Element}
use Rattle.chain_stages.specs.declared.step_end.StepEnd.{StepEnd}
use Rattle.chain_stages.specs.declared.step_end.StepEnd.TheVariants.{Going, Ended, Fault}
use Rattle.chain_stages.specs.declared.stages.Stage.{Stage}
use Rattle.chain_stages.specs.Chains.{after_end, chain_output, each_through, followed_by, one_by_one, stage_output}
use Rattle.chain_stages.specs.Elements.{emitted_by}
use Rattle.chain_stages.specs.Stages.{Output, alone, nothing, output, through}

-- outputs with equal elements are equal
same_output : (xs ys : List Element) (end : StepEnd) → xs ≡ ys → output xs end ≡ output ys end
same_output xs ys end e = λ i. output (e i) end

pub nothing_more : (xs : List Element) (end : StepEnd) → followed_by (output xs end) (nothing Going) ≡ output xs end
nothing_more xs Going = same_output _ _ Going (append-nil xs)
nothing_more xs (Ended line) = refl
nothing_more xs (Fault line kind) = refl

pub followed_assoc : (a b c : Output) → followed_by (followed_by a b) c ≡ followed_by a (followed_by b c)
followed_assoc a b c = at_end a.end
  where
    at_second : (end : StepEnd) (more : List Element) → after_end end (output (a.elements ++ more) end) c ≡ output (a.elements ++ (after_end end (output more end) c).elements) (after_end end (output more end) c).end
    at_second Going more = same_output _ _ c.end (append_assoc a.elements more c.elements)
    at_second (Ended line) more = refl
    at_second (Fault line kind) more = refl

    at_end : (end : StepEnd) → followed_by (after_end end (output a.elements end) b) c ≡ after_end end (output a.elements end) (followed_by b c)
    at_end Going = at_second b.end b.elements
    at_end (Ended line) = refl
    at_end (Fault line kind) = refl

-- a stage over two lists
stage_append : (stage : Stage) (xs ys : List Element) (end : StepEnd) → each_through stage (xs ++ ys) end ≡ followed_by (each_through stage xs Going) (each_through stage ys end)
stage_append stage [] ys end = refl
stage_append stage (x ∷ xs) ys end =
    ap (followed_by (through stage x)) (stage_append stage xs ys end) ∙ sym (followed_assoc (through stage x) (each_through stage xs Going) (each_through stage ys end))

-- a stage over a list that follows another
stage_followed : (stage : Stage) (a b : Output) → stage_output stage (followed_by a b) ≡ followed_by (stage_output stage a) (stage_output stage b)
stage_followed stage a b = at_end a.end
  where
    ends : (end : StepEnd) (xs : List Element) → each_through stage xs end ≡ followed_by (each_through stage xs Going) (nothing end)
    ends end xs = ap (λ ys. each_through stage ys end) (sym (append-nil xs)) ∙ stage_append stage xs [] end

    stops : (end : StepEnd) (o : Output) → ((c : Output) → after_end end (nothing end) c ≡ nothing end) →
        followed_by o (nothing end) ≡ followed_by (followed_by o (nothing end)) (stage_output stage b)
    stops end o is = ap (followed_by o) (sym (is (stage_output stage b))) ∙ sym (followed_assoc o (nothing end) (stage_output stage b))

    at_end : (end : StepEnd) → stage_output stage (after_end end (output a.elements end) b) ≡ followed_by (each_through stage a.elements end) (stage_output stage b)
    at_end Going = stage_append stage a.elements b.elements b.end
    at_end (Ended line) = ends (Ended line) a.elements ∙ stops (Ended line) (each_through stage a.elements Going) (λ c. refl) ∙ ap (λ o. followed_by o (stage_output stage b)) (sym (ends (Ended line) a.elements))
    at_end (Fault line kind) = ends (Fault line kind) a.elements ∙ stops (Fault line kind) (each_through stage a.elements Going) (λ c. refl) ∙ ap (λ o. followed_by o (stage_output stage b)) (sym (ends (Fault line kind) a.elements))

-- a chain over a list that follows another
pub chain_followed : (stages : List Stage) (a b : Output) → chain_output stages (followed_by a b) ≡ followed_by (chain_output stages a) (chain_output stages b)
chain_followed [] a b = refl
chain_followed (stage ∷ stages) a b = ap (chain_output stages) (stage_followed stage a b) ∙ chain_followed stages (stage_output stage a) (stage_output stage b)

pub chain_nothing : (stages : List Stage) (end : StepEnd) → chain_output stages (nothing end) ≡ nothing end
chain_nothing [] end = refl
chain_nothing (stage ∷ stages) end = chain_nothing stages end

pub chain_two : (stages : List Stage) (xs ys : List Element) (end : StepEnd) →
    chain_output stages (output (xs ++ ys) end) ≡ followed_by (chain_output stages (output xs Going)) (chain_output stages (output ys end))
chain_two stages xs ys end = chain_followed stages (output xs Going) (output ys end)

pub chain_end : (stages : List Stage) (xs : List Element) (end : StepEnd) → chain_output stages (output xs end) ≡ followed_by (chain_output stages (output xs Going)) (nothing end)
chain_end stages xs end =
    ap (λ ys. chain_output stages (output ys end)) (sym (append-nil xs)) ∙ chain_two stages xs [] end
    ∙ ap (followed_by (chain_output stages (output xs Going))) (chain_nothing stages end)

pub chain_alone : (stage : Stage) (stages : List Stage) (e : Element) → chain_output (stage ∷ stages) (alone e) ≡ chain_output stages (through stage e)
chain_alone stage stages e = ap (chain_output stages) (nothing_more (through stage e).elements (through stage e).end)

pub chain_append : (front back : List Stage) (list : Output) → chain_output (front ++ back) list ≡ chain_output back (chain_output front list)
chain_append [] back list = refl
chain_append (stage ∷ front) back list = chain_append front back (stage_output stage list)

pub chain_by_one : (stages : List Stage) (es : List Element) (end : StepEnd) → chain_output stages (output es end) ≡ one_by_one stages es end
chain_by_one stages [] end = chain_nothing stages end
chain_by_one stages (e ∷ es) end = chain_two stages (e ∷ []) es end ∙ ap (followed_by (chain_output stages (alone e))) (chain_by_one stages es end)

-- the pairs of elements one after another
pub emitted-append : (xs ys : List Element) → emitted_by (xs ++ ys) ≡ emitted_by xs ++ emitted_by ys
emitted-append [] ys = refl
emitted-append (x ∷ xs) ys = ap (λ pairs. x.emitted ++ pairs) (emitted-append xs ys) ∙ sym (append_assoc x.emitted (emitted_by xs) (emitted_by ys))
