mod FlatOutcomes
mod SameClauses
mod FlatTold
mod KeptPrograms
mod LookedAt
mod OneGoalEach
