mod HowMany
