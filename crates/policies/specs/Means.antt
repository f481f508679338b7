-- What a value of a policy's type means: the ghost members of the trait at that value, together.
use Rattle.policies.specs.declared.policy.Policy.{Ghosts}
use Rattle.policies.specs.Promises.{Meaning, meant}

-- the meaning of the policy p, by the ghost members that its type gives to the trait Policy
abbrev pub meaning : {A : Type 0} → Ghosts A → A → Meaning
meaning members p = meant (members.takes p) (members.plan p) (members.next p) (members.demand p)
