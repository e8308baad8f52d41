mod LookUps
