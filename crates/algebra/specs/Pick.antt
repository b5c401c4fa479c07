-- pick d a b : a where the decision d is yes, b where it is no

-- One of two values, by a decision.
abbrev pub pick {ℓ ℓ'} : {P : Type ℓ} {A : Type ℓ'} → Dec P → A → A → A
pick (yes p) a b = a
pick (no n) a b = b
